-- Taking back an insertion, a removal or a union restores a finite set.
use Rattle.std.proofs.Common.{◌≡◌, ◌∙◌, inl, inr, true, subst, sym}
use Rattle.std.proofs.lemmas.Bool.{and_from, and_parts, both_ways, false_from_ne_true, not-true, not_from_false, or_left}
use Rattle.std.specs.declared.cmp.Ordering.{Ordering}
use Rattle.std.specs.Cmp.{IsTotalOrder}
use Rattle.std.specs.FinSet.{FinSet, IsAntisymmetric, contains, difference, insert, remove, union}
use Rattle.std.specs.FinSet.{contains-difference, contains-union}
use Rattle.thes_base.proofs.SetMemberLemmas.{inserted_cases, inserted_kept, inserted_new, removed_cases, removed_kept}
use Rattle.thes_base.proofs.SetMemberLemmas.{same_members, same_or_not, union_cases}

module _ {K : Type 0} {R : K → K → Ordering} (total : IsTotalOrder R) (exact : IsAntisymmetric R) where
  pub insert_then_remove : (s : FinSet R) (k : K) → (contains s k ≡ true → ⊥) → remove (insert s k) k ≡ s
  insert_then_remove s k new =
      same_members total exact _ _
      (λ q held. let some = removed_cases total exact (insert s k) k q held in
      elim (inserted_cases total exact s k q some.1) [ inl is ↦ absurd (some.0 is) | inr old ↦ old ])
      (λ q held. removed_kept total exact (insert s k) k q
      (λ same. new (subst (λ x. contains s x ≡ true) same held)) (inserted_kept total exact s k q held))

  pub remove_then_insert : (s : FinSet R) (k : K) → contains s k ≡ true → insert (remove s k) k ≡ s
  remove_then_insert s k has =
      same_members total exact _ _
      (λ q held. elim (inserted_cases total exact (remove s k) k q held) [
        | inl is ↦ subst (λ x. contains s x ≡ true) (sym is) has
        | inr old ↦ (removed_cases total exact s k q old).1
      ])
      (λ q held. elim (same_or_not total exact q k) [
        | inl is ↦ subst (λ x. contains (insert (remove s k) k) x ≡ true) (sym is)
            (inserted_new total exact (remove s k) k)
        | inr apart ↦ inserted_kept total exact (remove s k) k q (removed_kept total exact s k q apart held)
      ])

  -- Removing what a union added restores the set.
  pub union_then_difference : (s t : FinSet R)
      → ((k : K) → contains t k ≡ true → contains s k ≡ true → ⊥) → difference (union s t) t ≡ s
  union_then_difference s t new =
      same_members total exact _ _
      (λ q held.
      let both = and_parts _ _ (sym (contains-difference total (union s t) t q) ∙ held) in
      elim (union_cases total exact s t q both.0) [
        | inl old ↦ old
        | inr added ↦ absurd (both_ways _ (not-true _ both.1) added)
      ])
      (λ q held. contains-difference total (union s t) t q
      ∙ and_from _ _ (contains-union total s t q ∙ or_left _ _ held)
      (not_from_false _ (false_from_ne_true _ (λ added. new q added held))))
