-- Proves that a permutation of a list has the same elements, forms the same set, and has no
-- duplicates if the list has none.
use Rattle.std.proofs.Common.{◌≡◌, ◌≤◌, ℕ, zero, suc, length, List, [], ◌∷◌, map, refl, sym, ap, ◌∙◌, subst, arith}
use Rattle.std.proofs.Common.{inl, inr, Bool, cond}
use Rattle.std.proofs.lemmas.Bool.{cases_Bool}
use Rattle.std.proofs.lemmas.List.{length-map, map-set}
use Rattle.std.proofs.lemmas.List.Sums.{sum_by-cons}
use Rattle.std.proofs.lemmas.List.Sorted.{IsPermutation-sym, Contains-permutation, sum_by-IsPermutation}
use Rattle.std.proofs.lemmas.List.Sorted.{IsPermutation-keeps, IsPermutation-swap, IsPermutation-trans}
use Rattle.std.proofs.lemmas.List.Sorted.{IsPermutation-refl}
use Rattle.std.specs.Prelude.{sum_by, slice_index_or, slice_set}
use Rattle.std.specs.List.{swap}
use Rattle.std.specs.List.Sorted.{IsPermutation}
use Rattle.std.specs.declared.cmp.Ordering.{Ordering}
use Rattle.std.specs.Ordering.{eq_by_cmp, is_eq}
use Rattle.std.specs.Cmp.{IsTotalOrder, tied_itself, Equal-is}
use Rattle.std.specs.FinMap.{IsAntisymmetric}
use Rattle.std.specs.FinSet as set
use Rattle.thes_base.proofs.SetMemberLemmas.{same_members}
use Rattle.thes_tables.specs.Tables.{IsIn, AreDistinct}
use Rattle.thes_load_rules.proofs.RowListLemmas.{row_of, in_set}
use Rattle.thes_core.proofs.DeltaLemmas.{contains_in, in_contains}

module _ {A : Type 0} where
  pub in_permuted : (xs ys : List A) → IsPermutation xs ys → (x : A) → IsIn x xs → IsIn x ys
  in_permuted xs ys p x h = contains_in ys x (Contains-permutation xs ys x p (in_contains xs x h))

  pub in_back : (xs ys : List A) → IsPermutation xs ys → (x : A) → IsIn x ys → IsIn x xs
  in_back xs ys p x h = in_permuted ys xs (IsPermutation-sym xs ys p) x h

-- A permutation of a mapped list is the map of a permuted list.

module _ {A B : Type 0} (f : A → B) where
  index_map : (xs : List A) (i : ℕ) (d : A) → slice_index_or (map f xs) i (f d) ≡ f (slice_index_or xs i d)
  index_map [] i d = refl
  index_map (x ∷ xs) zero d = refl
  index_map (x ∷ xs) (suc i) d = index_map xs i d

  swap_map : (xs : List A) (i j : ℕ) → swap (map f xs) i j ≡ map f (swap xs i j)
  swap_map [] i j = refl
  swap_map (x ∷ xs) i j =
      ap (λ y. slice_set (slice_set (map f (x ∷ xs)) i y) j (slice_index_or (map f (x ∷ xs)) i (f x)))
      (index_map (x ∷ xs) j x)
      ∙ ap (λ y. slice_set (slice_set (map f (x ∷ xs)) i (f (slice_index_or (x ∷ xs) j x))) j y)
      (index_map (x ∷ xs) i x)
      ∙ ap (λ ys. slice_set ys j (f (slice_index_or (x ∷ xs) i x)))
      (sym (map-set f (x ∷ xs) i (slice_index_or (x ∷ xs) j x)))
      ∙ sym (map-set f (slice_set (x ∷ xs) i (slice_index_or (x ∷ xs) j x)) j (slice_index_or (x ∷ xs) i x))

  pub map_permuted : (xs : List A) (ys : List B) → IsPermutation (map f xs) ys → (zs : List A) × IsPermutation xs zs
      × (ys ≡ map f zs)
  map_permuted xs = IsPermutation-keeps (map f xs) (λ l. (zs : List A) × IsPermutation xs zs × (l ≡ map f zs))
      (xs, IsPermutation-refl xs, refl) step
    where
      step : (l : List B) (i j : ℕ) → suc i ≤ length l → suc j ≤ length l
          → ((zs : List A) × IsPermutation xs zs × (l ≡ map f zs)) → (zs : List A) × IsPermutation xs zs
          × (swap l i j ≡ map f zs)
      step l i j p q (zs, are, is) =
          let n : length l ≡ length zs = ap length is ∙ length-map zs f in (
            swap zs i j,
            IsPermutation-trans xs zs (swap zs i j) are (IsPermutation-swap zs (swap zs i j) i j (omega (arith, p, n))
                (omega (arith, q, n)) refl),
            ap (λ k. swap k i j) is ∙ swap_map zs i j,
          )

-- The number of occurrences of each key shows whether a list has duplicates.

module _ {A K : Type 0} {R : K → K → Ordering} (total : IsTotalOrder R) (exact : IsAntisymmetric R) (key : A → K)
    (own : (x y : A) → key x ≡ key y → x ≡ y) where
  abbrev one_if : Bool → ℕ
  one_if b = cond b 1 0

  abbrev hit : A → A → ℕ
  hit x y = one_if (eq_by_cmp R (key x) (key y))

  hit_itself : (x y : A) → x ≡ y → hit x y ≡ 1
  hit_itself x y e = ap (λ z. hit x z) (sym e) ∙ ap one_if (ap is_eq (tied_itself total (key x)))

  hit_other : (x y : A) → (x ≡ y → ⊥) → hit x y ≡ 0
  hit_other x y ne = elim (cases_Bool (eq_by_cmp R (key x) (key y))) [
    | inl e ↦ absurd (ne (own x y (exact (key x) (key y) ((Equal-is (R (key x) (key y))).0 e))))
    | inr e ↦ ap one_if e
  ]

  count_of_member : (xs : List A) (x : A) → IsIn x xs → 1 ≤ sum_by (hit x) xs
  count_of_member [] x h = absurd h
  count_of_member (y ∷ xs) x (inl e) = let s = sum_by-cons (hit x) y xs in let i = hit_itself x y e in
      omega (arith, s, i)
  count_of_member (y ∷ xs) x (inr h) = let s = sum_by-cons (hit x) y xs in let r = count_of_member xs x h in
      omega (arith, s, r)

  count_of_absent : (xs : List A) (x : A) → (IsIn x xs → ⊥) → sum_by (hit x) xs ≡ 0
  count_of_absent [] x h = refl
  count_of_absent (y ∷ xs) x h = let s = sum_by-cons (hit x) y xs in let i = hit_other x y (λ e. h (inl e)) in let r =
      count_of_absent xs x (λ g. h (inr g)) in omega (arith, s, i, r)

  at_most : (x y : A) → hit x y ≤ 1
  at_most x y = elim (cases_Bool (eq_by_cmp R (key x) (key y))) [
    | inl e ↦ let is = ap one_if e in omega (arith, is)
    | inr e ↦ let is = ap one_if e in omega (arith, is)
  ]

  -- Without duplicates each element occurs at most once.
  count_once : (xs : List A) → AreDistinct xs → (x : A) → sum_by (hit x) xs ≤ 1
  count_once [] once x = omega arith
  count_once (y ∷ xs) once x =
      let s = sum_by-cons (hit x) y xs in
      elim (cases_Bool (eq_by_cmp R (key x) (key y))) [
        | inl e ↦
            let same = own x y (exact (key x) (key y) ((Equal-is (R (key x) (key y))).0 e)) in
            let none = count_of_absent xs x (λ h. once.0 (subst (λ z. IsIn z xs) same h)) in
            let most = at_most x y in
            omega (arith, s, none, most)
        | inr e ↦
            let is = ap one_if e in
            let rest = count_once xs once.1 x in
            omega (arith, s, is, rest)
      ]

  -- If each element occurs at most once, there are no duplicates.
  once_counted : (xs : List A) → ((x : A) → sum_by (hit x) xs ≤ 1) → AreDistinct xs
  once_counted [] most = tt
  once_counted (y ∷ xs) most = (
    (λ h.
        let s = sum_by-cons (hit y) y xs in
        let i = hit_itself y y refl in
        let r = count_of_member xs y h in
        let m = most y in
        omega (arith, s, i, r, m)),
    once_counted xs (λ x. let s = sum_by-cons (hit x) y xs in let m = most x in omega (arith, s, m)),
  )

  pub once_permuted : (xs ys : List A) → IsPermutation xs ys → AreDistinct xs → AreDistinct ys
  once_permuted xs ys p once = once_counted ys (λ x. let e = sum_by-IsPermutation (hit x) xs ys p in let m =
      count_once xs once x in omega (arith, e, m))

-- A permuted list has the same set of elements.

module _ {K : Type 0} {R : K → K → Ordering} (total : IsTotalOrder R) (exact : IsAntisymmetric R) where
  pub set_permuted : (xs ys : List K) → IsPermutation xs ys → set.from_list {R = R} ys ≡ set.from_list xs
  set_permuted xs ys p =
      same_members total exact _ _
      (λ q h. in_set total exact xs q (in_back xs ys p q (row_of total exact ys q h)))
      (λ q h. in_set total exact ys q (in_permuted xs ys p q (row_of total exact xs q h)))
