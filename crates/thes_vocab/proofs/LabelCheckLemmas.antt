-- The checks of labels agree with the conditions on labels after one is added, removed or replaced.
use Rattle.std.proofs.lemmas.Grind.{common_steps}
use Rattle.std.proofs.Common.{◌≡◌, ◌≢◌, ◌⊎◌, ◌≤◌, inl, inr, ℕ, ◌+◌, length, List, [], ◌∷◌, ◌++◌, refl, sym, ap, ◌∙◌}
use Rattle.std.proofs.Common.{subst, Bool, true, false, Bor, arith}
use Rattle.std.specs.Prelude.{Option, None, Some}
use Rattle.std.specs.Option.{MatchOption, is_some}
use Rattle.std.specs.Bool.{MatchBool}
use Rattle.std.specs.FinSet as set
use Rattle.std.proofs.lemmas.Bool.{or_cases, true≢false, cases_eq}
use Rattle.thes_base.specs.declared.data.Resource.{Resource}
use Rattle.thes_base.specs.declared.data.LabelKind.{LabelKind}
use Rattle.thes_base.specs.declared.data.LabelKind.TheVariants.{Pref, Alt, Hidden, Scope}
use Rattle.thes_base.specs.declared.data.LabelValue.{LabelValue}
use Rattle.thes_base.specs.declared.data.LabelValue.TheVariants as values
use Rattle.thes_base.specs.Data.{label_value_kind}
use Rattle.thes_base.specs.Resources.{IsLiveConcept, IsScheme, Exists, scheme_of}
use Rattle.thes_base.specs.Labels.{Label, Labels, HasLabel, is_lexical_kind, preferred_label_in, S13, S14}
use Rattle.thes_base.specs.Labels.{UniquePreferred, IsPreferredTaken}
use Rattle.thes_base.specs.declared.fault.Refusal.{Refusal}
use Rattle.thes_base.specs.declared.fault.Refusal.TheVariants as no
use Rattle.thes_base.specs.RefusalRules.{accepted}
use Rattle.thes_base.specs.Legal.{AreLegalLabels}
use Rattle.thes_base.specs.Changes.{label, concept_resource, has_lexical_label, replace_preferred, labels_after_relabel}
use Rattle.thes_base.specs.Refusals.{LeavesPreferred}
use Rattle.thes_base.specs.RuleParts.{unless_replaceable_preferred, unless_scheme, unless_unique}
use Rattle.thes_base.proofs.LabelSetLemmas.{inserted_cases, inserted_kept, inserted_new}
use Rattle.thes_base.proofs.LabelSetLemmas.{same_or_not as same_label_or_not}
use Rattle.thes_base.proofs.CopiedLabelLemmas.{name_of}
use Rattle.thes_base.proofs.PreferredLemmas.{preferred_found, preferred_of_label}
use Rattle.thes_base.proofs.ReplacePreferredLemmas.{IsReplacedLabel, renamed_cases, renamed_fresh, renamed_old}
use Rattle.thes_base.proofs.ReplacePreferredLemmas.{renamed_kept}
use Rattle.thes_base.proofs.UniquePreferredLemmas.{made_unique, taken_breaks}
use Rattle.thes_base.proofs.ConditionLemmas.{owner_exists}
use Rattle.thes_base.proofs.NumberedLemmas.{numbered_bound}
use Rattle.std.proofs.lemmas.Option.{same_Some}
use Rattle.thes_vocab.specs.Vocabulary.{Vocabulary, IsHolder}
use Rattle.thes_vocab.specs.Rivals.{HasRival, HasTwoPreferred, HasClash}

-- The text that a look-up returns is that of the preferred label in the language.
pub preferred_is : (labels : Labels) (owner : ℕ) (tag : List ℕ) → S14 labels → (o : Option (List ℕ))
    → MatchOption o ((text : List ℕ) → HasLabel labels owner Pref tag text → ⊥) (HasLabel labels owner Pref tag) → o
    ≡ preferred_label_in labels owner tag
preferred_is labels owner tag s14 o h = go (preferred_label_in labels owner tag) refl o h
  where
    never : {x : List ℕ} → preferred_label_in labels owner tag ≡ None → preferred_label_in labels owner tag ≡ Some x → ⊥
    never {x} e f = let g = sym e ∙ f in cc

    go : (p : Option (List ℕ)) → preferred_label_in labels owner tag ≡ p → (o : Option (List ℕ))
        → MatchOption o ((text : List ℕ) → HasLabel labels owner Pref tag text → ⊥) (HasLabel labels owner Pref tag)
        → o ≡ p
    go None is None h = refl
    go None is (Some text) h = absurd (never is (preferred_of_label labels owner tag text h).1)
    go (Some x) is None h = absurd (h x (preferred_found labels owner tag x is))
    go (Some x) is (Some text) h = ap Some (s14 owner tag text x h (preferred_found labels owner tag x is))

-- The owner of each label is the number of a resource.
pub owners_bound : (rs : List Resource) (labels : Labels) → AreLegalLabels rs labels → (l : Label)
    → set.contains labels l ≡ true → (1 ≤ l.owner) × (l.owner ≤ length rs)
owners_bound rs labels legal l held = let at = owner_exists rs l.owner (legal.owners l held) in
    numbered_bound rs l.owner at.0 at.1

pub kind_of_name : (labels : Labels) (owner : ℕ) (tag text : List ℕ) → has_lexical_label labels owner tag text ≡ true
    → (k : LabelKind) × (is_lexical_kind k ≡ true) × HasLabel labels owner k tag text
kind_of_name labels owner tag text e = grind (arith, common_steps, or_cases)

-- A live concept has a rival if another live concept of its scheme has its preferred label.
rival_of : (rs : List Resource) (labels : Labels) (l : Label) (m n scheme : ℕ) (tag text : List ℕ)
    → label m Pref tag text ≡ l → HasLabel labels n Pref tag text → n ≢ m → IsLiveConcept rs m
    → scheme_of rs m ≡ Some scheme → IsLiveConcept rs n → scheme_of rs n ≡ Some scheme
    → HasRival rs labels l.owner l.tag l.text
rival_of rs labels l m n scheme tag text is held differ lm sm ln sn =
    subst (λ (q : Label). HasRival rs labels q.owner q.tag q.text) is
    (record { scheme = scheme; rival = n; concept = lm; within = sm; holder = ((ln, sn), held); other = differ })

module _ (labels : Labels) (l : Label) where
  abbrev labels_with_new : Labels
  labels_with_new = set.insert labels l

  pub breaks_s13 : set.contains labels l ≡ false → is_lexical_kind l.kind ≡ true → has_lexical_label labels l.owner
      l.tag l.text ≡ true → S13 labels_with_new → ⊥
  breaks_s13 new name has s13 =
      let other = kind_of_name labels l.owner l.tag l.text has in
      let same = s13 l.owner l.kind other.0 l.tag l.text name other.1 (inserted_new labels l)
      (inserted_kept labels l _ other.2) in
      true≢false (sym (subst (λ k. HasLabel labels l.owner k l.tag l.text) (sym same) other.2) ∙ new)

  -- SKOS S13 is kept if the label isn't lexical, or its owner lacks the text in the language.
  pub keeps_s13 : S13 labels → (is_lexical_kind l.kind ≡ false) ⊎ (has_lexical_label labels l.owner l.tag l.text
      ≡ false) → S13 labels_with_new
  keeps_s13 s13 apart owner j k tag text nj nk hj hk = grind (arith, common_steps, inserted_cases, name_of)

  pub breaks_s14 : set.contains labels l ≡ false → l.kind ≡ Pref → (text : List ℕ) → HasLabel labels l.owner Pref
      l.tag text → S14 labels_with_new → ⊥
  breaks_s14 new is text has s14 =
      let held : HasLabel labels_with_new l.owner Pref l.tag l.text =
      subst (λ k. HasLabel labels_with_new l.owner k l.tag l.text) is (inserted_new labels l) in
      let same = s14 l.owner l.tag l.text text held (inserted_kept labels l _ has) in
      true≢false
      (sym (subst (λ (p : LabelKind × List ℕ). HasLabel labels l.owner p.0 l.tag p.1)
      (λ i. (sym is i, sym same i)) has) ∙ new)

  -- SKOS S14 is kept if the label isn't a preferred one, or its owner has none in the language.
  pub keeps_s14 : S14 labels → (l.kind ≢ Pref) ⊎ ((text : List ℕ) → HasLabel labels l.owner Pref l.tag text → ⊥)
      → S14 labels_with_new
  keeps_s14 s14 apart owner tag x y hx hy = grind (arith, common_steps, inserted_cases)

  module _ (rs : List Resource) where
    pub breaks_unique : l.kind ≡ Pref → HasRival rs labels l.owner l.tag l.text → UniquePreferred rs labels_with_new → ⊥
    breaks_unique is rival p1 =
        rival.other (p1 rival.rival l.owner rival.scheme l.tag l.text rival.holder.0.0 rival.concept rival.holder.0.1
        rival.within (inserted_kept labels l _ rival.holder.1)
        (subst (λ k. HasLabel labels_with_new l.owner k l.tag l.text) is (inserted_new labels l)))

    -- Preferred labels stay unique in each scheme if the label isn't preferred, or has no rival.
    pub keeps_unique : UniquePreferred rs labels → (l.kind ≢ Pref) ⊎ (HasRival rs labels l.owner l.tag l.text → ⊥)
        → UniquePreferred rs labels_with_new
    keeps_unique p1 apart m n scheme tag text lm ln sm sn hm hn =
        go (inserted_cases labels l _ hm) (inserted_cases labels l _ hn) (cases_eq n m)
      where
        rival_at : (m n : ℕ) → label m Pref tag text ≡ l → HasLabel labels n Pref tag text → n ≢ m
            → IsLiveConcept rs m → scheme_of rs m ≡ Some scheme → IsLiveConcept rs n → scheme_of rs n ≡ Some scheme
            → (l.kind ≢ Pref) ⊎ (HasRival rs labels l.owner l.tag l.text → ⊥) → ⊥
        rival_at m n is held differ lm sm ln sn (inl other) = other (sym (ap (λ (q : Label). q.kind) is))
        rival_at m n is held differ lm sm ln sn (inr none) =
            none (rival_of rs labels l m n scheme tag text is held differ lm sm ln sn)

        go : (label m Pref tag text ≡ l) ⊎ HasLabel labels m Pref tag text → (label n Pref tag text ≡ l)
            ⊎ HasLabel labels n Pref tag text → (n ≡ m) ⊎ (n ≢ m) → m ≡ n
        go a b h = grind (arith, common_steps, rival_at)

pub leaves_of_two : (labels : Labels) (l : Label) → HasTwoPreferred labels l.owner → LeavesPreferred labels l
leaves_of_two labels l two = elim (same_label_or_not (label l.owner Pref two.first_tag two.first_text) l) [
  | inl same ↦ inr (two.second_tag, two.second_text, two.second, λ e. two.apart (same ∙ sym e))
  | inr apart ↦ inr (two.first_tag, two.first_text, two.first, apart)
]

module _ (labels : Labels) (owner : ℕ) (tag text old : List ℕ) (keep : Bool) where
  abbrev labels_after_rename : Labels
  labels_after_rename = replace_preferred owner tag text keep old labels

  at_fresh : set.contains labels_after_rename (label owner Pref tag text) ≡ true
  at_fresh = renamed_fresh labels owner tag text old keep

  other_label_stays : (q : Label) → q ≢ label owner Pref tag old → set.contains labels q ≡ true
      → set.contains labels_after_rename q ≡ true
  other_label_stays = renamed_old labels owner tag text old keep

  abbrev IsClashOfText : Type 0
  IsClashOfText = HasClash labels owner tag text old keep

  not_alt : Alt ≡ Pref → ⊥
  not_alt e = cc

  not_hidden : Hidden ≡ Pref → ⊥
  not_hidden e = cc

  pub renamed_breaks_s13 : IsClashOfText → S13 labels_after_rename → ⊥
  renamed_breaks_s13 (inl alt) s13 =
      not_alt (s13 owner Alt Pref tag text refl refl
      (other_label_stays (label owner Alt tag text) (λ e. not_alt (ap (λ (l : Label). l.kind) e)) alt) at_fresh)
  renamed_breaks_s13 (inr (inl hidden)) s13 =
      not_hidden
      (s13 owner Hidden Pref tag text refl refl (other_label_stays (label owner Hidden tag text)
      (λ e. not_hidden (ap (λ (l : Label). l.kind) e)) hidden) at_fresh)
  renamed_breaks_s13 (inr (inr (keeps, same))) s13 =
      not_alt (s13 owner Alt Pref tag text refl refl (subst (λ x. HasLabel labels_after_rename owner Alt tag x) same
      (renamed_kept labels owner tag text old keep keeps)) at_fresh)

  abbrev Cases : Label → Type 0
  Cases = IsReplacedLabel labels owner tag text old keep

  -- SKOS S13 is kept if the new preferred label has no clash.
  pub renamed_keeps_s13 : S13 labels → HasLabel labels owner Pref tag old → (IsClashOfText → ⊥)
      → S13 labels_after_rename
  renamed_keeps_s13 s13 has_old free n j k t x nj nk hj hk = grind (arith, common_steps, renamed_cases)

  never_kept : (n : ℕ) (t x : List ℕ) → label n Pref t x ≡ label owner Alt tag old → ⊥
  never_kept n t x e = let k = ap (λ (l : Label). l.kind) e in cc

  module _ (rs : List Resource) where
    pub renamed_breaks_unique : HasRival rs labels owner tag text → UniquePreferred rs labels_after_rename → ⊥
    renamed_breaks_unique rival p1 = grind (arith, common_steps, at_fresh, other_label_stays)

    -- Preferred labels stay unique in each scheme if the new one has no rival.
    pub renamed_keeps_unique : UniquePreferred rs labels → (HasRival rs labels owner tag text → ⊥)
        → UniquePreferred rs labels_after_rename
    renamed_keeps_unique p1 none m n scheme t x lm ln sm sn hm hn =
        go (renamed_cases labels owner tag text old keep _ hm) (renamed_cases labels owner tag text old keep _ hn)
        (cases_eq n m)
      where
        rival_at : (m n : ℕ) → label m Pref t x ≡ label owner Pref tag text → HasLabel labels n Pref t x → n ≢ m
            → IsLiveConcept rs m → scheme_of rs m ≡ Some scheme → IsLiveConcept rs n → scheme_of rs n ≡ Some scheme
            → ⊥
        rival_at m n is held differ lm sm ln sn =
            none (rival_of rs labels _ m n scheme t x is held differ lm sm ln sn)

        go : Cases (label m Pref t x) → Cases (label n Pref t x) → (n ≡ m) ⊎ (n ≢ m) → m ≡ n
        go a b h = grind (arith, common_steps, never_kept, rival_at)

pub relabelled_is : (labels : Labels) (owner : ℕ) (tag text old : List ℕ) (keep : Bool) → S14 labels
    → HasLabel labels owner Pref tag old → labels_after_relabel owner tag text keep labels ≡ replace_preferred owner
    tag text keep old labels
relabelled_is labels owner tag text old keep s14 has =
    ap (λ (o : Option (List ℕ)). elim o [ None ↦ labels | Some x ↦ replace_preferred owner tag text keep x labels ])
    (sym (preferred_is labels owner tag s14 (Some old) has))

pub row_without_name : (rs : List Resource) (labels next : Labels) (owner : ℕ) (tag : List ℕ)
    → ((text : List ℕ) → HasLabel labels owner Pref tag text → ⊥) → unless_replaceable_preferred labels rs next owner
    tag accepted
    (Some no.NoSuchLabel)
row_without_name rs labels next owner tag none = inl (λ (text, has). none text has, refl)

-- Assumes that `old` is the owner's preferred label: look-ups decide whether the text may replace it.
module _ (seen v : Vocabulary) (is : seen ≡ v) (owner : ℕ) (tag text old : List ℕ) (keep : Bool)
    (legal : AreLegalLabels seen.resources seen.labels) (has : HasLabel seen.labels owner Pref tag old) where
  abbrev labels : Labels
  labels = seen.labels

  abbrev RowOf : Option Refusal → Type 0
  RowOf answer = unless_replaceable_preferred v.labels v.resources (labels_after_relabel owner tag text keep v.labels)
      owner tag accepted answer

  at_renamed : (answer : Option Refusal) → unless_replaceable_preferred labels seen.resources
      (replace_preferred owner tag text keep old labels) owner tag accepted answer → RowOf answer
  at_renamed answer row = subst (λ (w : Vocabulary). unless_replaceable_preferred w.labels w.resources
      (labels_after_relabel owner tag text keep w.labels) owner tag accepted answer) is
      (subst (λ (renamed : Labels). unless_replaceable_preferred labels seen.resources renamed owner tag accepted
      answer) (sym (relabelled_is labels owner tag text old keep legal.one_preferred has)) row)

  pub row_clashing : HasClash labels owner tag text old keep → RowOf (Some no.S13)
  row_clashing c = at_renamed _ (inr ((old, has), inl (renamed_breaks_s13 labels owner tag text old keep c, refl)))

  module _ (clashes : Bool) (told : HasClash labels owner tag text old keep → clashes ≡ true)
      (none : clashes ≡ false) where
    free : HasClash labels owner tag text old keep → ⊥
    free clash = true≢false (sym (told clash) ∙ none)

    pub row_with_rival : HasRival v.resources v.labels owner tag text → RowOf (Some no.PreferredTaken)
    row_with_rival rival =
        at_renamed _
        (inr (
          (old, has),
          inr (
            renamed_keeps_s13 labels owner tag text old keep legal.disjoint has free,
            inl (
              renamed_breaks_unique labels owner tag text old keep seen.resources
                  (subst (λ (w : Vocabulary). HasRival w.resources w.labels owner tag text) (sym is) rival),
              refl,
            ),
          ),
        ))

    pub row_renamed : (HasRival v.resources v.labels owner tag text → ⊥) → RowOf None
    row_renamed alone =
        at_renamed _
        (inr (
          (old, has),
          inr (
            renamed_keeps_s13 labels owner tag text old keep legal.disjoint has free,
            inr (
              renamed_keeps_unique labels owner tag text old keep seen.resources legal.unique (λ rival. alone
                  (subst (λ (w : Vocabulary). HasRival w.resources w.labels owner tag text) is rival)),
              refl,
            ),
          ),
        ))

pub name_unless_scope : (k : LabelKind) → k ≢ Scope → is_lexical_kind k ≡ true
name_unless_scope k apart = grind (arith, common_steps)

pub answers_s14 : (labels : Labels) (l : Label) → set.contains labels l ≡ false → l.kind ≡ Pref → S14 labels
    → (o : Option (Bor (List ℕ))) → MatchOption o ((text : List ℕ) → HasLabel labels l.owner Pref l.tag text → ⊥)
    (λ text. HasLabel labels l.owner Pref l.tag text.now)
    → (answer : Bool) → answer ≡ is_some o → MatchBool answer (S14 (set.insert labels l) → ⊥)
    (S14 (set.insert labels l))
answers_s14 labels l new is s14 o none answer e = grind (arith, common_steps, breaks_s14, keeps_s14)

pub not_pref : (value : LabelValue) → ((text : List ℕ) → value ≡ values.Pref text → ⊥) → label_value_kind value ≡ Pref
    → ⊥
not_pref value other e = grind (arith, common_steps)

-- Shows that a look-up finds a holder exactly when the preferred label is taken.
module _ (rs : List Resource) (labels : Labels) (scheme : ℕ) (tag text : List ℕ) where
  pub holder_taken : (o : Option ℕ) → MatchOption o (IsPreferredTaken rs labels scheme tag text → ⊥)
      (IsHolder rs labels scheme tag text) → is_some o ≡ true → IsPreferredTaken rs labels scheme tag text
  holder_taken None h e = absurd (cc)
  holder_taken (Some n) h e = (n, h.0.0, h.0.1, h.1)

  pub no_holder : (o : Option ℕ) → MatchOption o (IsPreferredTaken rs labels scheme tag text → ⊥)
      (IsHolder rs labels scheme tag text) → is_some o ≡ false → IsPreferredTaken rs labels scheme tag text → ⊥
  no_holder None h e = h
  no_holder (Some n) h e = absurd (cc)

module _ (rs : List Resource) (labels : Labels) (legal : AreLegalLabels rs labels) (scheme : ℕ) (tag text : List ℕ)
    (is_scheme : IsScheme rs scheme) where
  abbrev RowOfConcept : Option Refusal → Type 0
  RowOfConcept answer =
      unless_scheme rs scheme (unless_unique (rs ++ concept_resource (Some scheme) ∷ [])
      (set.insert labels (label (length rs + 1) Pref tag text)) accepted) answer

  scheme_exists : Exists rs scheme
  scheme_exists = (is_scheme.0, is_scheme.1)

  pub row_taken : IsPreferredTaken rs labels scheme tag text → RowOfConcept (Some no.PreferredTaken)
  row_taken taken =
      inr (
        scheme_exists,
        inr (
          is_scheme,
          inl (
            taken_breaks rs labels scheme (concept_resource (Some scheme)) tag text refl refl taken,
            refl,
          ),
        ),
      )

  pub row_free : (IsPreferredTaken rs labels scheme tag text → ⊥) → RowOfConcept None
  row_free none =
      inr (
        scheme_exists,
        inr (
          is_scheme,
          inr (
            made_unique rs labels (concept_resource (Some scheme)) tag text (owners_bound rs labels legal) legal.unique
                (λ s live e taken. none (subst (λ k. IsPreferredTaken rs labels k tag text) (sym (same_Some _ _ e))
                taken)),
            refl,
          ),
        ),
      )
