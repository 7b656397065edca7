-- Lists without duplicates, and their sorted permutations.
use Rattle.std.proofs.Common.{◌≡◌, ◌≢◌, ◌<◌, ◌≤◌, ℕ, zero, suc, ◌+◌, length, List, [], ◌∷◌, refl, sym, ap, ◌∙◌, arith}
use Rattle.std.proofs.Common.{⊎_elim, Bool, true, false, cond, ◌||◌, eqb, eqb-true, ne_eqb, get_or}
use borrow.Author.Tests.{eq-eqb}
use Rattle.std.specs.Prelude.{count_by}
use Rattle.std.specs.List.{list_any}
use Rattle.std.specs.List.Sorted.{IsPermutation, IsNonDecreasing}
use Rattle.std.proofs.lemmas.List.Sums.{sum_by-cons}
use Rattle.std.proofs.lemmas.List.Sorted.{sum_by-IsPermutation}
use Rattle.std.proofs.lemmas.Bool.{cases_Bool}
use Rattle.thes_base.specs.Refusals.{EachOnce}
use Rattle.thes_post.specs.Rising.{RisesFrom}

abbrev pub as_number : Bool → ℕ
as_number b = cond b 1 0

-- Whether the list contains the number.
abbrev pub has_number : List ℕ → ℕ → Bool
has_number ns n = list_any (λ m. eqb m n) ns

-- A strictly rising list has no number below its lower bound.
pub has_below : (least n : ℕ) (ns : List ℕ) → n < least → RisesFrom least ns → has_number ns n ≡ false
has_below least n [] l r = refl
has_below least n (m ∷ ns) l r =
    let q = r.0 in
    ap (λ b. b || has_number ns n) (ne_eqb m n (omega arith)) ∙ has_below (m + 1) n ns (omega arith) r.1

abbrev pub occurrences : ℕ → List ℕ → ℕ
occurrences n ns = count_by (λ m. eqb m n) ns

times_cons : (n m : ℕ) (ns : List ℕ) → occurrences n (m ∷ ns) ≡ cond (eqb m n) 1 0 + occurrences n ns
times_cons n m ns = sum_by-cons (λ x. cond (eqb x n) 1 0) m ns

one_or_none : (b : Bool) → b ≡ true → as_number b ≡ 1
one_or_none b e = ap as_number e

times_none : (n : ℕ) (ns : List ℕ) → has_number ns n ≡ false → occurrences n ns ≡ 0
times_none n [] e = refl
times_none n (m ∷ ns) e = ⊎_elim
    (λ (same : eqb m n ≡ true). absurd (let t : true ≡ false = sym (ap (λ b. b || has_number ns n) same) ∙ e in cc))
    (λ (apart : eqb m n ≡ false).
    let rest = times_none n ns (sym (ap (λ b. b || has_number ns n) apart) ∙ e) in
    let here = ap {B = ℕ} (λ b. cond b 1 0) apart in
    let both = times_cons n m ns in
    omega (arith, rest, here, both)) (cases_Bool (eqb m n))

times_some : (n : ℕ) (ns : List ℕ) → has_number ns n ≡ true → 1 ≤ occurrences n ns
times_some n [] e = absurd (cc)
times_some n (m ∷ ns) e = ⊎_elim
    (λ (same : eqb m n ≡ true). let here = one_or_none (eqb m n) same in let both = times_cons n m ns in
    omega (arith, here, both))
    (λ (apart : eqb m n ≡ false).
    let rest = times_some n ns (sym (ap (λ b. b || has_number ns n) apart) ∙ e) in
    let both = times_cons n m ns in
    omega (arith, rest, both)) (cases_Bool (eqb m n))

-- Each number occurs at most once in a list without duplicates.
once_times : (ns : List ℕ) → EachOnce ns → (n : ℕ) → occurrences n ns ≤ 1
once_times [] e n = omega arith
once_times (m ∷ ns) e n = ⊎_elim
    (λ (same : eqb m n ≡ true).
    let here = one_or_none (eqb m n) same in
    let none = times_none n ns (ap (has_number ns) (sym (eqb-true m n same)) ∙ e.0) in
    let both = times_cons n m ns in
    omega (arith, here, none, both))
    (λ (apart : eqb m n ≡ false).
    let rest = once_times ns e.1 n in
    let here = ap {B = ℕ} (λ b. cond b 1 0) apart in
    let both = times_cons n m ns in
    omega (arith, rest, here, both)) (cases_Bool (eqb m n))

-- A list in which each number occurs at most once has no duplicates.
times_once : (ns : List ℕ) → ((n : ℕ) → occurrences n ns ≤ 1) → EachOnce ns
times_once [] f = tt
times_once (m ∷ ns) f = (
  ⊎_elim
      (λ (again : has_number ns m ≡ true).
      let some = times_some m ns again in
      let here = one_or_none (eqb m m) (eq-eqb m m refl) in
      let both = times_cons m m ns in
      let most = f m in
      absurd (omega (arith, some, here, both, most)))
      (λ (none : has_number ns m ≡ false). none) (cases_Bool (has_number ns m)),
  times_once ns (λ n. let both = times_cons n m ns in let most = f n in omega (arith, both, most)),
)

-- A permutation of a list without duplicates has no duplicates.
pub once_permutation : (ms ns : List ℕ) → IsPermutation ms ns → EachOnce ms → EachOnce ns
once_permutation ms ns p e = times_once ns (λ n. let same = sum_by-IsPermutation (λ m. cond (eqb m n) 1 0) ms ns p in
    let most = once_times ms e n in omega (arith, same, most))

pub once_of_rises : (least : ℕ) (ns : List ℕ) → RisesFrom least ns → EachOnce ns
once_of_rises least [] r = tt
once_of_rises least (n ∷ ns) r = (has_below (n + 1) n ns (omega arith) r.1, once_of_rises (n + 1) ns r.1)

-- A sorted list without duplicates rises strictly.
pub rises_of_once : (least : ℕ) (ns : List ℕ) → ((k : ℕ) → k < length ns → least ≤ get_or ns k 0) → IsNonDecreasing ns
    → EachOnce ns → RisesFrom least ns
rises_of_once least [] low up e = tt
rises_of_once least (n ∷ ns) low up e = (
  low 0 (omega arith),
  rises_of_once (n + 1) ns above (λ i j d l m. up (suc i) (suc j) d (omega arith) (omega arith)) e.1,
)
  where
    above : (k : ℕ) → k < length ns → n + 1 ≤ get_or ns k 0
    above k l = let u : n ≤ get_or ns k 0 = up 0 (suc k) 0 (omega arith) (omega arith) in let d = apart ns k l e.0 in
        omega (arith, u, d)
      where
        apart : (ms : List ℕ) (j : ℕ) → j < length ms → has_number ms n ≡ false → get_or ms j 0 ≢ n
        apart [] j m f = absurd (omega arith)
        apart (x ∷ ms) zero m f = λ same. let t : eqb x n ≡ true = ap (λ y. eqb y n) same ∙ eq-eqb n n refl in
            let u : true ≡ false = sym (ap (λ b. b || has_number ms n) t) ∙ f in absurd (cc)
        apart (x ∷ ms) (suc j) m f = apart ms j (omega arith) (⊎_elim
            (λ (t : eqb x n ≡ true). let u : true ≡ false = sym (ap (λ b. b || has_number ms n) t) ∙ f in absurd (cc))
            (λ (t : eqb x n ≡ false). sym (ap (λ b. b || has_number ms n) t) ∙ f) (cases_Bool (eqb x n)))

pub rises_sorted : (ms ns : List ℕ) → IsPermutation ms ns → IsNonDecreasing ns → EachOnce ms → RisesFrom 0 ns
rises_sorted ms ns p up e = rises_of_once 0 ns (λ k l. omega arith) up (once_permutation ms ns p e)
