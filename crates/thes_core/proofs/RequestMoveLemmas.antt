-- The rows of table move that a request inserts are the moves of the machine's step.
use Rattle.std.proofs.lemmas.Grind.{common_steps}
use Rattle.std.proofs.Common.{◌≡◌, ◌≢◌, ◌<◌, ◌≤◌, inl, inr, ℕ, zero, suc, ◌+◌, List, [], ◌∷◌, refl, sym, ap, ◌∙◌}
use Rattle.std.proofs.Common.{subst, arith, Bool, true, false, cond, ◌||◌, eqb, eqb-true, ne_eqb, map}
use borrow.Author.Tests.{eq-eqb}
use Rattle.std.specs.Prelude.{Some, None, filter, slice_get}
use Rattle.std.specs.List.Sorted.{IsPermutation, IsNonDecreasing}
use Rattle.std.specs.Cmp.{both_ways}
use Rattle.std.proofs.lemmas.Bool.{cases_Bool, or_cases}
use Rattle.std.proofs.lemmas.List.Sorted.{list_any-IsPermutation}
use Rattle.thes_base.specs.declared.data.History.{History}
use Rattle.thes_base.specs.RefusalRules.{accepted}
use Rattle.thes_base.specs.Refusals.{EachOnce, IsKnownPosting, EachListed}
use Rattle.thes_base.specs.RuleParts.{unless_split_postings}
use Rattle.thes_base.specs.Changes.{is_listed}
use Rattle.thes_base.proofs.RefusalRuleLemmas.{passed_unless}
use Rattle.thes_post.specs.Rising.{RisesFrom}
use Rattle.thes_post.proofs.EachLemmas.{has_of_each}
use Rattle.thes_post.proofs.OnceLemmas.{has_number, has_below, rises_sorted}
use Rattle.thes_post.proofs.PostingCountLemmas.{AllAssigned, stands_parts}
use Rattle.thes_tables.specs.declared.rows.MoveRow.{MoveRow}
use Rattle.thes_tables.specs.declared.change.Change.{Change}
use Rattle.thes_tables.specs.declared.change.Change.TheVariants as change
use Rattle.thes_tables.specs.Changes.{new_moves}
use Rattle.thes_core.specs.Deltas.{move_rows, place_change}

rises_more : (low high : ℕ) (ns : List ℕ) → low ≤ high → RisesFrom high ns → RisesFrom low ns
rises_more low high [] l r = tt
rises_more low high (n ∷ ns) l r = (let q = r.0 in omega arith, r.1)

has_head : (x : ℕ) (xs : List ℕ) → has_number (x ∷ xs) x ≡ true
has_head x xs = ap (λ b. b || has_number xs x) (eq-eqb x x refl)

first_same : (x y : ℕ) (xs ys : List ℕ) → RisesFrom (y + 1) ys
    → ((n : ℕ) → has_number (x ∷ xs) n ≡ has_number (y ∷ ys) n) → x < y → ⊥
first_same x y xs ys up same less =
    let out : has_number (y ∷ ys) x ≡ false = ap (λ b. b || has_number ys x) (ne_eqb y x (omega arith))
    ∙ has_below (y + 1) x ys (omega arith) up in
    let clash : true ≡ false = sym (has_head x xs) ∙ same x ∙ out in
    cc

-- Two ascending lists with the same numbers are equal.
pub same_rising : (low high : ℕ) (xs ys : List ℕ) → RisesFrom low xs → RisesFrom high ys
    → ((n : ℕ) → has_number xs n ≡ has_number ys n) → xs ≡ ys
same_rising low high [] [] up vp same = refl
same_rising low high [] (y ∷ ys) up vp same = let clash : false ≡ true = same y ∙ has_head y ys in absurd (cc)
same_rising low high (x ∷ xs) [] up vp same = let clash : true ≡ false = sym (has_head x xs) ∙ same x in absurd (cc)
same_rising low high (x ∷ xs) (y ∷ ys) up vp same = λ i. at i ∷ same_rising (x + 1) (y + 1) xs ys up.1 vp.1 rest i
  where
    at : x ≡ y
    at = let a = first_same x y xs ys vp.1 same in let b = first_same y x ys xs up.1 (λ n. sym (same n)) in
        omega (arith, a, b)

    rest : (n : ℕ) → has_number xs n ≡ has_number ys n
    rest n = grind (arith, common_steps, at, cases_Bool, eqb-true, has_below)

-- The numbers of the histories that pass a test, in their order.
module _ (passes : History → Bool) where
  abbrev pub passing_numbers : List History → List ℕ
  passing_numbers hs = map (λ h. h.number) (filter passes hs)

  passing_yes : (h : History) (hs : List History) → passes h ≡ true → passing_numbers (h ∷ hs) ≡ h.number
      ∷ passing_numbers hs
  passing_yes h hs e = ap (λ b. map (λ (x : History). x.number) (cond b (h ∷ filter passes hs) (filter passes hs))) e

  passing_no : (h : History) (hs : List History) → passes h ≡ false → passing_numbers (h ∷ hs) ≡ passing_numbers hs
  passing_no h hs e = ap (λ b. map (λ (x : History). x.number) (cond b (h ∷ filter passes hs) (filter passes hs))) e

  passing_rises : (first : ℕ) (hs : List History) → ((i : ℕ) (h : History) → slice_get hs i ≡ Some h → h.number
      ≡ first + i) → RisesFrom first (passing_numbers hs)
  passing_rises first [] at = tt
  passing_rises first (h ∷ hs) at =
      let rest = passing_rises (first + 1) hs (λ i g e. let n = at (suc i) g e in omega (arith, n)) in
      let number = at 0 h refl in
      elim (cases_Bool (passes h)) [
        | inl hit ↦ subst (RisesFrom first) (sym (passing_yes h hs hit)) (
          (omega (arith, number)),
          subst (λ n. RisesFrom n (passing_numbers hs)) (let q : first + 1 ≡ h.number + 1 =
              omega (arith, number) in q) rest,
        )
        | inr miss ↦ subst (RisesFrom first) (sym (passing_no h hs miss))
            (rises_more first (first + 1) (passing_numbers hs) (omega arith) rest)
      ]

  -- The list has the number of each history that passes.
  passing_has : (hs : List History) (i : ℕ) (h : History) → slice_get hs i ≡ Some h → passes h ≡ true
      → has_number (passing_numbers hs) h.number ≡ true
  passing_has [] i h e hit = absurd (cc)
  passing_has (x ∷ hs) zero h e hit = grind (arith, common_steps, eq-eqb, passing_yes)
  passing_has (x ∷ hs) (suc i) h e hit =
      grind (arith, common_steps, cases_Bool, passing_no, passing_yes, passing_has hs i h e hit)

  passing_from : (hs : List History) (n : ℕ) → has_number (passing_numbers hs) n ≡ true → (h : History)
      × (passes h ≡ true) × (h.number ≡ n)
  passing_from [] n e = absurd (cc)
  passing_from (h ∷ hs) n e =
      grind (arith, common_steps, cases_Bool, eqb-true, or_cases, passing_no, passing_yes, passing_from hs n)

  -- If all histories that pass are assigned to the source, their new moves are the rows of moves from the source to the
  -- target.
  pub moves_passing : (source target : ℕ) (apart : source ≢ target) (number : ℕ) (hs : List History)
      → AllAssigned passes source target apart hs → new_moves passes target number hs ≡ move_rows number source target
      (passing_numbers hs)
  moves_passing source target apart number [] all = refl
  moves_passing source target apart number (h ∷ hs) all = grind (
    arith,
    common_steps,
    cases_Bool,
    passing_no,
    passing_yes,
    stands_parts,
    moves_passing source target apart (number + 1) hs all.1,
    moves_passing source target apart number hs all.1,
  )

-- Sorted, the numbers that a split lists are those of the listed histories, in the order of the histories.
pub listed_sorted : (hs : List History) (source : ℕ) (postings ordered : List ℕ)
    → ((i : ℕ) (h : History) → slice_get hs i ≡ Some h → h.number ≡ suc i) → unless_split_postings hs source postings
    accepted None → IsPermutation postings ordered → IsNonDecreasing ordered → passing_numbers (is_listed postings) hs
    ≡ ordered
listed_sorted hs source postings ordered numbers row same up =
    same_rising 1 0 (passing_numbers (is_listed postings) hs) ordered
    (passing_rises (is_listed postings) 1 hs (λ i h e. let n = numbers i h e in omega (arith, n)))
    (rises_sorted postings ordered same up once)
    (λ n. both_ways _ _ (λ e. forward n e) (λ e. back n e) ∙ list_any-IsPermutation (λ m. eqb m n) postings ordered
    same)
  where
    once : EachOnce postings
    once = (passed_unless row).0

    known : EachListed (IsKnownPosting hs) postings
    known = (passed_unless (passed_unless row).1).0

    forward : (n : ℕ) → has_number (passing_numbers (is_listed postings) hs) n ≡ true → has_number postings n ≡ true
    forward n e = let p = passing_from (is_listed postings) hs n e in subst (λ k. has_number postings k ≡ true) p.2 p.1

    back : (n : ℕ) → has_number postings n ≡ true → has_number (passing_numbers (is_listed postings) hs) n ≡ true
    back n e = grind (arith, common_steps, has_of_each, known, passing_has)

-- If each row of moves sets its posting's place, the changes are those that set the places of all these postings to the
-- target.
pub places_of_moves : (number source target : ℕ) (ps : List ℕ)
    → map (λ (m : MoveRow). change.SetPlace m.posting m.target) (move_rows number source target ps)
    ≡ map (place_change target) ps
places_of_moves number source target [] = refl
places_of_moves number source target (p ∷ ps) = ap (λ (cs : List Change). change.SetPlace p target ∷ cs)
    (places_of_moves (number + 1) source target ps)
