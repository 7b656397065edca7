-- Each request leaves the labels legal.
use Rattle.std.proofs.Common.{◌≡◌, ◌≢◌, ◌⊎◌, ℕ, ◌+◌, length, List, [], ◌∷◌, ◌++◌, refl, sym, ap, ◌∙◌, subst, arith}
use Rattle.std.proofs.Common.{inl, inr, Bool, true, ◌&&◌}
use Rattle.std.specs.Prelude.{Option, Some}
use Rattle.std.specs.FinSet.{contains, insert, remove}
use Rattle.std.proofs.lemmas.Bool.{and_parts}
use Rattle.thes_base.specs.declared.data.Resource.{Resource}
use Rattle.thes_base.specs.declared.data.LabelKind.{LabelKind}
use Rattle.thes_base.specs.declared.data.LabelKind.TheVariants.{Pref, Alt}
use Rattle.thes_base.specs.Resources.{entry_at, set_entry_at, IsLiveConcept, CanOwn, is_scheme_kind, is_concept_kind}
use Rattle.thes_base.specs.Resources.{is_collection_kind}
use Rattle.thes_base.specs.Labels.{Label, Labels, HasLabel, HasPreferred, is_lexical_kind, S13, S14, UniquePreferred}
use Rattle.thes_base.specs.Changes.{label, resource_after_death, replace_preferred, outside_resource}
use Rattle.thes_base.specs.Refusals.{LeavesPreferred}
use Rattle.thes_base.specs.Legal.{AreLegalLabels}
use Rattle.thes_base.proofs.NumberedLemmas.{push_new, numbered_bound}
use Rattle.thes_base.proofs.ResourceLemmas.{passes_push, passes_pop, passes_dead, passes_before, scheme_push}
use Rattle.thes_base.proofs.ConditionLemmas.{owner_exists}
use Rattle.thes_base.proofs.LabelSetLemmas.{inserted_cases, inserted_kept, inserted_new, removed_cases, removed_kept}
use Rattle.thes_base.proofs.LabelSetLemmas.{same_or_not}
use Rattle.thes_base.proofs.ReplacePreferredLemmas.{IsReplacedLabel, renamed_cases, renamed_fresh, renamed_old}
use Rattle.thes_base.proofs.UniquePreferredLemmas.{dead_unique}

-- The resource is of a kind that may own labels.
abbrev pub MayOwn : Resource → Type 0
MayOwn r = (is_scheme_kind r.kind ≡ true) ⊎ (is_concept_kind r.kind ≡ true) ⊎ (is_collection_kind r.kind ≡ true)

pub own_push : (rs : List Resource) (r : Resource) (n : ℕ) → CanOwn rs n → CanOwn (rs ++ r ∷ []) n
own_push rs r n (inl o) = inl (passes_push rs r (λ x. is_scheme_kind x.kind) n o)
own_push rs r n (inr (inl o)) = inr (inl (passes_push rs r (λ x. is_concept_kind x.kind) n o))
own_push rs r n (inr (inr o)) = inr (inr (passes_push rs r (λ x. is_collection_kind x.kind) n o))

own_pop : (rs : List Resource) (r : Resource) (n : ℕ) → CanOwn (rs ++ r ∷ []) n → CanOwn rs n
    ⊎ ((n ≡ length rs + 1) × MayOwn r)
own_pop rs r n (inl o) = elim (passes_pop rs r (λ x. is_scheme_kind x.kind) n o) [
  | inl old ↦ inl (inl old)
  | inr new ↦ inr (new.0, inl new.1)
]
own_pop rs r n (inr (inl o)) = elim (passes_pop rs r (λ x. is_concept_kind x.kind) n o)
    [ inl old ↦ inl (inr (inl old)) | inr new ↦ inr (new.0, inr (inl new.1)) ]
own_pop rs r n (inr (inr o)) = elim (passes_pop rs r (λ x. is_collection_kind x.kind) n o)
    [ inl old ↦ inl (inr (inr old)) | inr new ↦ inr (new.0, inr (inr new.1)) ]

own_new : (rs : List Resource) (r : Resource) → MayOwn r → CanOwn (rs ++ r ∷ []) (length rs + 1)
own_new rs r (inl k) = inl (r, push_new rs r, k)
own_new rs r (inr (inl k)) = inr (inl (r, push_new rs r, k))
own_new rs r (inr (inr k)) = inr (inr (r, push_new rs r, k))

-- Assumes that a resource is created with a preferred label.
module _ (rs : List Resource) (labels : Labels) (r : Resource) (tag text : List ℕ)
    (legal : AreLegalLabels rs labels) where
  abbrev new_label : Label
  new_label = label (length rs + 1) Pref tag text

  new_apart : (l : Label) → contains labels l ≡ true → l.owner ≢ length rs + 1
  new_apart l held e = let o = owner_exists rs l.owner (legal.owners l held) in let b =
      numbered_bound rs l.owner o.0 o.1 in omega (arith, b, e)

  pub legal_labels_with_new : MayOwn r → UniquePreferred (rs ++ r ∷ []) (insert labels new_label)
      → AreLegalLabels (rs ++ r ∷ []) (insert labels new_label)
  legal_labels_with_new may unique = record {
    owners = λ l held. owner_at l (inserted_cases labels new_label l held);
    disjoint = λ owner j k t x nj nk hj hk. disjoint_at owner j k t x nj nk (inserted_cases labels new_label _ hj)
        (inserted_cases labels new_label _ hk);
    one_preferred = λ owner t x y hx hy. one_at owner t x y (inserted_cases labels new_label _ hx)
        (inserted_cases labels new_label _ hy);
    unique = unique;
    named = λ n o. named_at n (own_pop rs r n o);
  }
    where
      owner_at : (l : Label) → (l ≡ new_label) ⊎ (contains labels l ≡ true) → CanOwn (rs ++ r ∷ []) l.owner
      owner_at l (inl is) = subst (λ (x : Label). CanOwn (rs ++ r ∷ []) x.owner) (sym is) (own_new rs r may)
      owner_at l (inr old) = own_push rs r l.owner (legal.owners l old)

      disjoint_at : (owner : ℕ) (j k : LabelKind) (t x : List ℕ) → is_lexical_kind j ≡ true → is_lexical_kind k ≡ true
          → (label owner j t x ≡ new_label) ⊎ HasLabel labels owner j t x → (label owner k t x ≡ new_label)
          ⊎ HasLabel labels owner k t x → j ≡ k
      disjoint_at owner j k t x nj nk (inl a) (inl b) = ap (λ (l : Label). l.kind) a
          ∙ sym (ap (λ (l : Label). l.kind) b)
      disjoint_at owner j k t x nj nk (inl a) (inr old) = absurd (new_apart _ old (ap (λ (l : Label). l.owner) a))
      disjoint_at owner j k t x nj nk (inr old) (inl b) = absurd (new_apart _ old (ap (λ (l : Label). l.owner) b))
      disjoint_at owner j k t x nj nk (inr a) (inr b) = legal.disjoint owner j k t x nj nk a b

      one_at : (owner : ℕ) (t x y : List ℕ) → (label owner Pref t x ≡ new_label) ⊎ HasLabel labels owner Pref t x
          → (label owner Pref t y ≡ new_label) ⊎ HasLabel labels owner Pref t y → x ≡ y
      one_at owner t x y (inl a) (inl b) = ap (λ (l : Label). l.text) a ∙ sym (ap (λ (l : Label). l.text) b)
      one_at owner t x y (inl a) (inr old) = absurd (new_apart _ old (ap (λ (l : Label). l.owner) a))
      one_at owner t x y (inr old) (inl b) = absurd (new_apart _ old (ap (λ (l : Label). l.owner) b))
      one_at owner t x y (inr a) (inr b) = legal.one_preferred owner t x y a b

      named_at : (n : ℕ) → CanOwn rs n ⊎ ((n ≡ length rs + 1) × MayOwn r) → HasPreferred (insert labels new_label) n
      named_at n (inl o) = let has = legal.named n o in (has.0, has.1, inserted_kept labels new_label _ has.2)
      named_at n (inr (at, _)) = (
        tag,
        text,
        subst (λ k. HasLabel (insert labels new_label) k Pref tag text) (sym at)
            (inserted_new labels new_label),
      )

-- An outside concept can't own labels.
pub outside_owns_none : MayOwn outside_resource → ⊥
outside_owns_none (inl e) = cc
outside_owns_none (inr (inl e)) = cc
outside_owns_none (inr (inr e)) = cc

-- The labels stay legal if a resource is created that can't own any.
pub labels_push : (rs : List Resource) (labels : Labels) (r : Resource) → (MayOwn r → ⊥) → AreLegalLabels rs labels
    → AreLegalLabels (rs ++ r ∷ []) labels
labels_push rs labels r never legal = record {
  owners = λ l held. own_push rs r l.owner (legal.owners l held);
  disjoint = legal.disjoint;
  one_preferred = legal.one_preferred;
  unique = λ m n scheme t x lm ln sm sn hm hn. legal.unique m n scheme t x (old m lm) (old n ln)
      (sym (scheme_push rs r m ((old m lm).0, (old m lm).1)) ∙ sm)
      (sym (scheme_push rs r n ((old n ln).0, (old n ln).1)) ∙ sn) hm hn;
  named = λ n o. named_at n (own_pop rs r n o);
}
  where
    old : (n : ℕ) → IsLiveConcept (rs ++ r ∷ []) n → IsLiveConcept rs n
    old n l = go (passes_pop rs r (λ x. is_concept_kind x.kind && x.live) n l)
      where
        go : IsLiveConcept rs n ⊎ ((n ≡ length rs + 1) × ((is_concept_kind r.kind && r.live) ≡ true))
            → IsLiveConcept rs n
        go (inl was) = was
        go (inr (_, both)) = absurd (never (inr (inl (and_parts (is_concept_kind r.kind) r.live both).0)))

    named_at : (n : ℕ) → CanOwn rs n ⊎ ((n ≡ length rs + 1) × MayOwn r) → HasPreferred labels n
    named_at n (inl o) = legal.named n o
    named_at n (inr (_, may)) = absurd (never may)

-- The labels stay legal if a label is added that breaks no condition.
pub labels_added : (rs : List Resource) (labels : Labels) (l : Label) → CanOwn rs l.owner → S13 (insert labels l)
    → S14 (insert labels l) → UniquePreferred rs (insert labels l) → AreLegalLabels rs labels
    → AreLegalLabels rs (insert labels l)
labels_added rs labels l owner s13 s14 p1 legal = record {
  owners = λ m held. owner_at m (inserted_cases labels l m held);
  disjoint = s13;
  one_preferred = s14;
  unique = p1;
  named = λ n o. let has = legal.named n o in (has.0, has.1, inserted_kept labels l _ has.2);
}
  where
    owner_at : (m : Label) → (m ≡ l) ⊎ (contains labels m ≡ true) → CanOwn rs m.owner
    owner_at m (inl is) = subst (λ (x : Label). CanOwn rs x.owner) (sym is) owner
    owner_at m (inr old) = legal.owners m old

-- The labels stay legal if a label is removed and its owner keeps a preferred one.
pub labels_dropped : (rs : List Resource) (labels : Labels) (l : Label) → LeavesPreferred labels l
    → AreLegalLabels rs labels → AreLegalLabels rs (remove labels l)
labels_dropped rs labels l leaves legal = record {
  owners = λ m held. legal.owners m (removed_cases labels l m held).1;
  disjoint = λ owner j k t x nj nk hj hk. legal.disjoint owner j k t x nj nk (removed_cases labels l _ hj).1
      (removed_cases labels l _ hk).1;
  one_preferred = λ owner t x y hx hy. legal.one_preferred owner t x y (removed_cases labels l _ hx).1
      (removed_cases labels l _ hy).1;
  unique = λ m n scheme t x lm ln sm sn hm hn. legal.unique m n scheme t x lm ln sm sn (removed_cases labels l _ hm).1
      (removed_cases labels l _ hn).1;
  named = λ n o. let has = legal.named n o in named_at n has.0 has.1 has.2 (same_or_not (label n Pref has.0 has.1) l)
      leaves;
}
  where
    named_at : (n : ℕ) (t x : List ℕ) → HasLabel labels n Pref t x → (label n Pref t x ≡ l) ⊎ (label n Pref t x ≢ l)
        → LeavesPreferred labels l → HasPreferred (remove labels l) n
    named_at n t x has (inr apart) _ = (t, x, removed_kept labels l _ apart has)
    named_at n t x has (inl same) (inl not_pref) = absurd (not_pref (sym (ap (λ (y : Label). y.kind) same)))
    named_at n t x has (inl same) (inr (tag, text, other, apart)) =
        let o = ap (λ (y : Label). y.owner) same in (
          tag,
          text,
          subst (λ k. HasLabel (remove labels l) k Pref tag text) (sym o)
              (removed_kept labels l _ apart other),
        )

-- Assumes that the preferred label in a tag is replaced.
module _ (rs : List Resource) (labels : Labels) (owner : ℕ) (tag text : List ℕ) (keep : Bool) (old : List ℕ)
    (legal : AreLegalLabels rs labels) (has_old : HasLabel labels owner Pref tag old) (can : CanOwn rs owner) where
  abbrev Cases : Label → Type 0
  Cases = IsReplacedLabel labels owner tag text old keep

  pub labels_renamed : S13 (replace_preferred owner tag text keep old labels)
      → UniquePreferred rs (replace_preferred owner tag text keep old labels)
      → AreLegalLabels rs (replace_preferred owner tag text keep old labels)
  labels_renamed s13 p1 = record {
    owners = λ l held. owner_at l (renamed_cases labels owner tag text old keep l held);
    disjoint = s13;
    one_preferred = λ n t x y hx hy. one_at n t x y (renamed_cases labels owner tag text old keep _ hx)
        (renamed_cases labels owner tag text old keep _ hy);
    unique = p1;
    named = λ n o. let has = legal.named n o in
        named_at n has.0 has.1 has.2 (same_or_not (label n Pref has.0 has.1) (label owner Pref tag old));
  }
    where
      owner_at : (l : Label) → Cases l → CanOwn rs l.owner
      owner_at l (inl is) = subst (λ (x : Label). CanOwn rs x.owner) (sym is) can
      owner_at l (inr (inl (_, is))) = subst (λ (x : Label). CanOwn rs x.owner) (sym is) can
      owner_at l (inr (inr (_, before))) = legal.owners l before

      not_alt : Pref ≡ Alt → ⊥
      not_alt e = cc

      -- The owner had no preferred label in the tag other than the old one.
      only_old : (n : ℕ) (t y : List ℕ) → n ≡ owner → t ≡ tag → label n Pref t y ≢ label owner Pref tag old
          → HasLabel labels n Pref t y → ⊥
      only_old n t y en et apart held =
          let here = subst (λ (p : ℕ × List ℕ). HasLabel labels p.0 Pref p.1 y) (λ i. (en i, et i)) held in
          let e = legal.one_preferred owner tag y old here has_old in
          apart (λ i. label (en i) Pref (et i) (e i))

      one_at : (n : ℕ) (t x y : List ℕ) → Cases (label n Pref t x) → Cases (label n Pref t y) → x ≡ y
      one_at n t x y (inr (inl (_, a))) b = absurd (not_alt (ap (λ (l : Label). l.kind) a))
      one_at n t x y a (inr (inl (_, b))) = absurd (not_alt (ap (λ (l : Label). l.kind) b))
      one_at n t x y (inl a) (inl b) = ap (λ (l : Label). l.text) a ∙ sym (ap (λ (l : Label). l.text) b)
      one_at n t x y (inl a) (inr (inr (apart, held))) =
          absurd (only_old n t y (ap (λ (l : Label). l.owner) a) (ap (λ (l : Label). l.tag) a) apart held)
      one_at n t x y (inr (inr (apart, held))) (inl b) =
          absurd (only_old n t x (ap (λ (l : Label). l.owner) b) (ap (λ (l : Label). l.tag) b) apart held)
      one_at n t x y (inr (inr (_, a))) (inr (inr (_, b))) = legal.one_preferred n t x y a b

      named_at : (n : ℕ) (t x : List ℕ) → HasLabel labels n Pref t x → (label n Pref t x ≡ label owner Pref tag old)
          ⊎ (label n Pref t x ≢ label owner Pref tag old)
          → HasPreferred (replace_preferred owner tag text keep old labels) n
      named_at n t x held (inl same) = (
        tag,
        text,
        subst (λ k. HasLabel (replace_preferred owner tag text keep old labels) k Pref tag text)
            (sym (ap (λ (l : Label). l.owner) same)) (renamed_fresh labels owner tag text old keep),
      )
      named_at n t x held (inr apart) = (t, x, renamed_old labels owner tag text old keep _ apart held)

-- Assumes that a resource was merged or deprecated.
module _ (rs : List Resource) (n : ℕ) (rep : Option ℕ) (r : Resource) (at : entry_at rs n ≡ Some r) where
  own_dead : (m : ℕ) → CanOwn rs m → CanOwn (set_entry_at rs n (resource_after_death rep r)) m
  own_dead m (inl o) = inl (passes_dead rs n rep r at (λ x. is_scheme_kind x.kind) (λ x. refl) m o)
  own_dead m (inr (inl o)) = inr (inl (passes_dead rs n rep r at (λ x. is_concept_kind x.kind) (λ x. refl) m o))
  own_dead m (inr (inr o)) = inr (inr (passes_dead rs n rep r at (λ x. is_collection_kind x.kind) (λ x. refl) m o))

  own_before : (m : ℕ) → CanOwn (set_entry_at rs n (resource_after_death rep r)) m → CanOwn rs m
  own_before m (inl o) = inl (passes_before rs n rep r at (λ x. is_scheme_kind x.kind) (λ x. refl) m o)
  own_before m (inr (inl o)) = inr (inl (passes_before rs n rep r at (λ x. is_concept_kind x.kind) (λ x. refl) m o))
  own_before m (inr (inr o)) = inr (inr (passes_before rs n rep r at (λ x. is_collection_kind x.kind) (λ x. refl) m o))

  pub labels_dead : (labels : Labels) → AreLegalLabels rs labels
      → AreLegalLabels (set_entry_at rs n (resource_after_death rep r)) labels
  labels_dead labels legal = record {
    owners = λ l held. own_dead l.owner (legal.owners l held);
    disjoint = legal.disjoint;
    one_preferred = legal.one_preferred;
    unique = dead_unique rs labels n rep r at legal.unique;
    named = λ m o. legal.named m (own_before m o);
  }
