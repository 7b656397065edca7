-- A merge gives the target copies of lexical labels of the source, and leaves the labels legal.
use Rattle.std.proofs.lemmas.Grind.{common_steps}
use Rattle.std.proofs.Common.{arith}
use Rattle.std.proofs.Common.{◌≡◌, ◌⊎◌, ℕ, List, [], refl, sym, ap, ◌∙◌, subst, inl, inr, Bool, true, false, not}
use Rattle.std.proofs.Common.{◌&&◌, eqb-true, eq-eqb, Contains, map}
use Rattle.std.specs.Prelude.{◌==◌, filter}
use Rattle.std.specs.FinSet.{contains, union, items, contains-union}
use Rattle.thes_base.specs.declared.data.Resource.{Resource}
use Rattle.thes_base.specs.declared.data.LabelKind.{LabelKind}
use Rattle.thes_base.specs.declared.data.LabelKind.TheVariants.{Pref, Alt, Hidden, Scope}
use Rattle.thes_base.specs.Resources.{CanOwn}
use Rattle.thes_base.specs.Labels.{Label, Labels, HasLabel, is_lexical_kind}
use Rattle.thes_base.specs.Changes.{label, HasLexicalLabel, has_lexical_label, copied_label_kind, IsCopiedLabel}
use Rattle.thes_base.specs.Changes.{copied_labels}
use Rattle.thes_base.specs.Laws.{MergeCopiesLabels}
use Rattle.thes_base.specs.Legal.{AreLegalLabels}
use Rattle.std.proofs.lemmas.Bool.{or_cases, or_left, or_right, and_parts, and_from, not-true, both_ways}
use Rattle.thes_base.proofs.LabelSetLemmas.{labels_total, labels_exact}
use Rattle.thes_base.proofs.ListMemberLemmas.{Contains-map, Contains-from_map, Contains-filter, Contains-from_filter}
use Rattle.thes_base.proofs.SetMemberLemmas.{from_list_of, from_list_has, items_of, items_has}

-- A lexical label is copied as a lexical label.
pub name_taken : (k : LabelKind) → is_lexical_kind k ≡ true → is_lexical_kind (copied_label_kind k) ≡ true
name_taken Pref n = refl
name_taken Alt n = refl
name_taken Hidden n = refl
name_taken Scope n = n

-- The test for lexical labels finds a lexical label of any kind.
pub name_of : (labels : Labels) (owner : ℕ) (k : LabelKind) (tag text : List ℕ) → is_lexical_kind k ≡ true
    → HasLabel labels owner k tag text → has_lexical_label labels owner tag text ≡ true
name_of labels owner Pref tag text n h = or_left _ _ (or_left _ _ h)
name_of labels owner Alt tag text n h = or_left _ _ (or_right _ _ h)
name_of labels owner Hidden tag text n h = or_right _ _ h
name_of labels owner Scope tag text n h = absurd (cc)

module _ (rs : List Resource) (labels : Labels) (source target : ℕ) where
  -- The label is one that a merge copies: the source has it as a lexical label, and the target has no lexical label
  -- with its tag and text.
  pub record IsLabelToCopy (l : Label) : Type 0 where
    pub held : contains labels l ≡ true
    pub owner : l.owner ≡ source
    pub name : is_lexical_kind l.kind ≡ true
    pub free : has_lexical_label labels target l.tag l.text ≡ false

  -- Whether a merge copies the label to the target.
  abbrev takes : Label → Bool
  takes l = l.owner == source && (is_lexical_kind l.kind && not (has_lexical_label labels target l.tag l.text))

  abbrev pub copied_label : Label → Label
  copied_label l = label target (copied_label_kind l.kind) l.tag l.text

  -- A label after a merge is an old one or a copied one.
  pub union_cases : (q : Label) → contains (union labels (copied_labels source target labels)) q ≡ true
      → (contains labels q ≡ true) ⊎ ((l : Label) × IsLabelToCopy l × (q ≡ copied_label l))
  union_cases q e =
      elim (or_cases _ _ (sym (contains-union labels_total labels (copied_labels source target labels) q) ∙ e)) [
        | inl old ↦ inl old
        | inr new ↦
            let mapped = Contains-from_map copied_label _ q (from_list_of labels_total labels_exact _ q new) in
            let l = mapped.0 in
            let kept = Contains-from_filter takes _ l mapped.1 in
            let parts =
            and_parts (l.owner == source)
            (is_lexical_kind l.kind && not (has_lexical_label labels target l.tag l.text)) kept.1 in
            let rest = and_parts (is_lexical_kind l.kind) (not (has_lexical_label labels target l.tag l.text))
            parts.1 in
            inr (
              l,
              record {
                held = items_of labels_total labels_exact labels l kept.0;
                owner = eqb-true l.owner source parts.0;
                name = rest.0;
                free = not-true (has_lexical_label labels target l.tag l.text) rest.1;
              },
              sym mapped.2,
            )
      ]

  never_preferred : (k : LabelKind) → Pref ≡ copied_label_kind k → ⊥
  never_preferred Pref e = cc
  never_preferred Alt e = cc
  never_preferred Hidden e = cc
  never_preferred Scope e = cc

  -- A preferred label after a merge was held before it, because no label is copied as a preferred one.
  pub preferred_before : (n : ℕ) (t x : List ℕ) → HasLabel (union labels (copied_labels source target labels)) n Pref
      t x → HasLabel labels n Pref t x
  preferred_before n t x h =
      elim (union_cases _ h)
      [ inl old ↦ old | inr new ↦ absurd (never_preferred new.0.kind (ap (λ (l : Label). l.kind) new.2)) ]

  -- The target had no lexical label with the tag and the text of a copied one.
  mixed : (owner : ℕ) (j k : LabelKind) (t x : List ℕ) (l : Label) → is_lexical_kind k ≡ true → IsLabelToCopy l
      → label owner j t x ≡ copied_label l → HasLabel labels owner k t x → ⊥
  mixed owner j k t x l nk taken is old = grind (arith, common_steps, both_ways, name_of)

  given_of_taken : (q : Label) → (l : Label) × IsLabelToCopy l × (q ≡ copied_label l) → IsCopiedLabel source target
      labels q
  given_of_taken q (l, taken, is) = subst (IsCopiedLabel source target labels) (sym is) (
    l.kind,
    taken.name,
    subst (λ n. HasLabel labels n l.kind l.tag l.text) taken.owner taken.held,
    λ has. both_ways (has_lexical_label labels target l.tag l.text) taken.free
        (name_of labels target has.0 l.tag l.text has.1 has.2),
    refl,
  )

  no_name : (tag text : List ℕ) → (¬ HasLexicalLabel labels target tag text) → (b : Bool) → has_lexical_label labels
      target tag text ≡ b → not b ≡ true
  no_name tag text free false e = refl
  no_name tag text free true e = elim (or_cases _ _ e) [
    | inl names ↦ elim (or_cases _ _ names) [
      | inl pref ↦ absurd (free (Pref, refl, pref))
      | inr alt ↦ absurd (free (Alt, refl, alt))
    ]
    | inr hidden ↦ absurd (free (Hidden, refl, hidden))
  ]

  taken_of_given : (q : Label) → IsCopiedLabel source target labels q
      → contains (union labels (copied_labels source target labels)) q ≡ true
  taken_of_given q (kind, name, held, free, is) =
      let l = label source kind q.tag q.text in
      let unnamed = no_name q.tag q.text free (has_lexical_label labels target q.tag q.text) refl in
      let hit = and_from _ _ (eq-eqb source source refl) (and_from _ _ name unnamed) in
      let kept = Contains-filter takes (items labels) l (items_has labels_total labels_exact labels l held) hit in
      let there = Contains-map copied_label (filter takes (items labels)) l kept in
      contains-union labels_total labels (copied_labels source target labels) q
      ∙ or_right _ _
      (from_list_has labels_total labels_exact _ q
      (subst (λ (y : Label). Contains (map copied_label (filter takes (items labels))) y) (sym is) there))

  module _ (legal : AreLegalLabels rs labels) where
    pub labels_merged : CanOwn rs target → AreLegalLabels rs (union labels (copied_labels source target labels))
    labels_merged can = record {
      owners = λ l held. owner_at l (union_cases l held);
      disjoint = λ owner j k t x nj nk hj hk. disjoint_at owner j k t x nj nk (union_cases _ hj) (union_cases _ hk);
      one_preferred = λ owner t x y hx hy. legal.one_preferred owner t x y (preferred_before owner t x hx)
          (preferred_before owner t y hy);
      unique = λ m n scheme t x lm ln sm sn hm hn. legal.unique m n scheme t x lm ln sm sn (preferred_before m t x hm)
          (preferred_before n t x hn);
      named = λ n o. let has = legal.named n o in (
        has.0,
        has.1,
        contains-union labels_total labels (copied_labels source target labels) _
            ∙ or_left _ _ has.2,
      );
    }
      where
        owner_at : (l : Label) → (contains labels l ≡ true) ⊎ ((x : Label) × IsLabelToCopy x × (l ≡ copied_label x))
            → CanOwn rs l.owner
        owner_at l (inl old) = legal.owners l old
        owner_at l (inr (x, taken, is)) = subst (λ (y : Label). CanOwn rs y.owner) (sym is) can

        disjoint_at : (owner : ℕ) (j k : LabelKind) (t x : List ℕ) → is_lexical_kind j ≡ true → is_lexical_kind k
            ≡ true → HasLabel labels owner j t x
            ⊎ ((l : Label) × IsLabelToCopy l × (label owner j t x ≡ copied_label l)) → HasLabel labels owner k t x
            ⊎ ((l : Label) × IsLabelToCopy l × (label owner k t x ≡ copied_label l)) → j ≡ k
        disjoint_at owner j k t x nj nk (inl a) (inl b) = legal.disjoint owner j k t x nj nk a b
        disjoint_at owner j k t x nj nk (inr (l, taken, is)) (inl old) = absurd (mixed owner j k t x l nk taken is old)
        disjoint_at owner j k t x nj nk (inl old) (inr (l, taken, is)) = absurd (mixed owner k j t x l nj taken is old)
        disjoint_at owner j k t x nj nk (inr (l, tl, il)) (inr (m, tm, im)) =
            let tags = sym (ap (λ (y : Label). y.tag) il) ∙ ap (λ (y : Label). y.tag) im in
            let texts = sym (ap (λ (y : Label). y.text) il) ∙ ap (λ (y : Label). y.text) im in
            let held = subst (λ (p : ℕ × (List ℕ × List ℕ)). HasLabel labels p.0 l.kind p.1.0 p.1.1)
            (λ i. ((tl.owner ∙ sym tm.owner) i, (tags i, texts i))) tl.held in
            let same = legal.disjoint m.owner l.kind m.kind m.tag m.text tl.name tm.name held tm.held in
            ap (λ (y : Label). y.kind) il ∙ ap copied_label_kind same ∙ sym (ap (λ (y : Label). y.kind) im)

-- The labels after a merge are those held before and those copied to the target.
pub merge_copies_labels : MergeCopiesLabels
merge_copies_labels source target labels l = (
  λ held. elim (union_cases [] labels source target l held)
      [ inl old ↦ inl old | inr new ↦ inr (given_of_taken [] labels source target l new) ],
  back,
)
  where
    back : (contains labels l ≡ true) ⊎ IsCopiedLabel source target labels l
        → contains (union labels (copied_labels source target labels)) l ≡ true
    back (inl old) = contains-union labels_total labels (copied_labels source target labels) l ∙ or_left _ _ old
    back (inr copied_label) = taken_of_given [] labels source target l copied_label
