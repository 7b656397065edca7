-- Proves that rows with different numbers have only one order by number.
use Rattle.std.proofs.Common.{◌≡◌, ◌⊎◌, ◌<◌, ◌≤◌, ◌+◌, ℕ, suc, List, [], ◌∷◌, map, refl, sym, ap, subst, arith, inl}
use Rattle.std.proofs.Common.{inr, cond, eqb}
use Rattle.std.proofs.lemmas.Bool.{cases_Bool, eq-eqb, eqb-true}
use Rattle.std.proofs.lemmas.List.Sums.{sum_by-cons}
use Rattle.std.proofs.lemmas.List.Sorted.{sum_by-IsPermutation}
use Rattle.std.specs.Prelude.{sum_by, Some}
use Rattle.std.specs.List.Sorted.{IsPermutation, IsNonDecreasingBy}
use Rattle.thes_base.specs.Resources.{entry_at}
use Rattle.thes_tables.specs.Tables.{IsIn}
use Rattle.thes_load_rules.proofs.RowListLemmas.{numbered_later}
use Rattle.thes_row_lists.proofs.PermutationLemmas.{in_back}

module _ {A : Type 0} (n : A → ℕ) where
  -- The numbers don't decrease, and are at least `low`.
  abbrev pub AreUp : ℕ → List A → Type 0
  AreUp low [] = Unit {0}
  AreUp low (x ∷ xs) = (low ≤ n x) × AreUp (n x) xs

  -- The numbers increase, and are at least `low`.
  abbrev pub AreRising : ℕ → List A → Type 0
  AreRising low [] = Unit {0}
  AreRising low (x ∷ xs) = (low ≤ n x) × AreRising (n x + 1) xs

  up_from : (low : ℕ) (x : A) (xs : List A) → low ≤ n x → IsNonDecreasingBy n (x ∷ xs) → AreUp low (x ∷ xs)
  up_from low x [] le sorted = (le, tt)
  up_from low x (y ∷ xs) le sorted = (
    le,
    up_from (n x) y xs (sorted 0 1 x (omega arith) (omega arith))
        (λ i j d p q. sorted (suc i) (suc j) d (omega (arith, p)) (omega (arith, q))),
  )

  pub up_of_sorted : (xs : List A) → IsNonDecreasingBy n xs → AreUp 0 xs
  up_of_sorted [] sorted = tt
  up_of_sorted (x ∷ xs) sorted = up_from 0 x xs (omega arith) sorted

  up_less : (low more : ℕ) (xs : List A) → low ≤ more → AreUp more xs → AreUp low xs
  up_less low more [] le up = tt
  up_less low more (x ∷ xs) le up = ((let q = up.0 in omega (arith, le, q)), up.1)

  rising_is_up : (low : ℕ) (xs : List A) → AreRising low xs → AreUp low xs
  rising_is_up low [] rising = tt
  rising_is_up low (x ∷ xs) rising =
      (rising.0, up_less (n x) (n x + 1) xs (omega arith) (rising_is_up (n x + 1) xs rising.1))

  pub up_of_rising : (low more : ℕ) (xs : List A) → low ≤ more → AreRising more xs → AreUp low xs
  up_of_rising low more xs le rising = up_less low more xs le (rising_is_up more xs rising)

  low_bounds_member : (low : ℕ) (xs : List A) (x : A) → AreUp low xs → IsIn x xs → low ≤ n x
  low_bounds_member low [] x up h = absurd h
  low_bounds_member low (y ∷ xs) x up (inl e) = let k = ap n e in let q = up.0 in omega (arith, k, q)
  low_bounds_member low (y ∷ xs) x up (inr h) = let r = low_bounds_member (n y) xs x up.1 h in let q = up.0 in
      omega (arith, r, q)

  -- What one row adds to the count of rows with number `m`: 1 if it has this number, and 0
  -- otherwise.
  abbrev hit : ℕ → A → ℕ
  hit m x = cond (eqb (n x) m) 1 0

  hits : (m : ℕ) (x : A) → n x ≡ m → hit m x ≡ 1
  hits m x e = ap (λ b. cond b 1 0) (eq-eqb (n x) m e)

  misses : (m : ℕ) (x : A) → m < n x → hit m x ≡ 0
  misses m x lt = elim (cases_Bool (eqb (n x) m)) [
    | inl e ↦ let is = eqb-true (n x) m e in absurd (omega (arith, lt, is))
    | inr e ↦ ap (λ b. cond b 1 0) e
  ]

  some : (xs : List A) (x : A) → IsIn x xs → 1 ≤ sum_by (hit (n x)) xs
  some [] x h = absurd h
  some (y ∷ xs) x (inl e) = let s = sum_by-cons (hit (n x)) y xs in let i = hits (n x) y (ap n (sym e)) in
      omega (arith, s, i)
  some (y ∷ xs) x (inr h) = let s = sum_by-cons (hit (n x)) y xs in let r = some xs x h in omega (arith, s, r)

  none : (m low : ℕ) (xs : List A) → m < low → AreUp low xs → sum_by (hit m) xs ≡ 0
  none m low [] lt up = refl
  none m low (x ∷ xs) lt up =
      let q = up.0 in
      let s = sum_by-cons (hit m) x xs in
      let i = misses m x (omega (arith, lt, q)) in
      let r = none m (n x) xs (omega (arith, lt, q)) up.1 in
      omega (arith, s, i, r)

  -- Two sorted lists of the same rows, one with increasing numbers, are equal.
  same_rows : (low least : ℕ) (xs ys : List A) → AreRising low xs → AreUp least ys
      → ((f : A → ℕ) → sum_by f ys ≡ sum_by f xs) → ((x : A) → IsIn x ys → IsIn x xs) → ys ≡ xs
  same_rows low least [] [] rising up posting_counts into = refl
  same_rows low least [] (y ∷ ys) rising up posting_counts into = absurd (into y (inl refl))
  same_rows low least (x ∷ xs) [] rising up posting_counts into = let e = posting_counts
      (λ z. 1) in let s = sum_by-cons (λ z. 1) x xs in
      absurd (omega (arith, e, s))
  same_rows low least (x ∷ xs) (y ∷ ys) rising up posting_counts into =
      at (into y (inl refl)) (λ e. same_rows (n x + 1) (n y) xs ys rising.1 up.1 (λ f. less f e)
      (λ z h. later z e h (into z (inr h))))
    where
      less : (f : A → ℕ) → y ≡ x → sum_by f ys ≡ sum_by f xs
      less f e = let a = posting_counts f in let b = sum_by-cons f x xs in let c = sum_by-cons f y ys in let d = ap f
          e in
          omega (arith, a, b, c, d)

      rest : sum_by (hit (n x)) xs ≡ 0
      rest = none (n x) (n x + 1) xs (omega arith) (rising_is_up (n x + 1) xs rising.1)

      later : (z : A) → y ≡ x → IsIn z ys → (z ≡ x) ⊎ IsIn z xs → IsIn z xs
      later z e h (inr there) = there
      later z e h (inl same) =
          let r = rest in
          let l = less (hit (n x)) e in
          let t = some ys z h in
          let k = ap (λ m. sum_by (hit m) ys) (ap n same) in
          absurd (omega (arith, r, l, t, k))

      at : (y ≡ x) ⊎ IsIn y xs → (y ≡ x → ys ≡ xs) → y ∷ ys ≡ x ∷ xs
      at (inl e) again = λ i. e i ∷ again e i
      at (inr h) again =
          let far = low_bounds_member (n x + 1) xs y (rising_is_up (n x + 1) xs rising.1) h in
          let total = posting_counts (hit (n x)) in
          let of_ys = none (n x) (n y) (y ∷ ys) (omega (arith, far)) (omega arith, up.1) in
          let of_xs = some (x ∷ xs) x (inl refl) in
          absurd (omega (arith, total, of_ys, of_xs))

  -- A list with increasing numbers is its only sorted permutation.
  pub only_order : (low least : ℕ) (xs ys : List A) → AreRising low xs → AreUp least ys → IsPermutation xs ys → ys ≡ xs
  only_order low least xs ys rising up p = same_rows low least xs ys rising up (λ f. sum_by-IsPermutation f xs ys p)
      (λ x h. in_back xs ys p x h)

-- Rows that are numbered without gaps have increasing numbers.
pub rising_in_order : {A B : Type 0} (n : B → ℕ) (number : A → ℕ) (cells_of : A → B)
    → ((x : A) → n (cells_of x) ≡ number x) → (k : ℕ) (xs : List A)
    → ((i : ℕ) (x : A) → entry_at xs i ≡ Some x → number x ≡ i + k) → AreRising n (k + 1) (map cells_of xs)
rising_in_order n number cells_of same k [] order = tt
rising_in_order n number cells_of same k (x ∷ xs) order =
    let e = same x in
    let first = order 1 x refl in
    let next : k + 1 + 1 ≡ n (cells_of x) + 1 = omega (arith, e, first) in (
      omega (arith, e, first),
      subst (λ low. AreRising n low (map cells_of xs)) next (rising_in_order n number cells_of same (k + 1) xs
          (λ i y h. let q = order (suc i) y (numbered_later xs i y x h) in omega (arith, q))),
    )
