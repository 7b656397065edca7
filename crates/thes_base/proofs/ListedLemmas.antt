-- A split moves as many postings as it lists.
use Rattle.std.proofs.lemmas.Grind.{common_steps}
use Rattle.std.proofs.Common.{◌≡◌, ◌<◌, ◌≤◌, ℕ, suc, ◌+◌, length, List, [], ◌∷◌, refl, sym, ap, ◌∙◌, inl, inr, arith}
use Rattle.std.proofs.Common.{Bool, true, false, cond, ◌||◌, eqb, eqb-true, ne_eqb}
use borrow.Author.Tests.{eqb-false}
use Rattle.std.specs.Prelude.{None, Some, count_by, slice_get}
use Rattle.std.specs.List.{list_any}
use Rattle.std.proofs.lemmas.List.Sums.{sum_by-cons}
use Rattle.std.proofs.lemmas.Bool.{cases_Bool}
use Rattle.thes_base.specs.declared.data.History.{History}
use Rattle.thes_base.specs.State.{State}
use Rattle.thes_base.specs.Changes.{is_listed}
use Rattle.thes_base.specs.RefusalRules.{accepted}
use Rattle.thes_base.specs.Refusals.{EachOnce, EachListed, IsKnownPosting}
use Rattle.thes_base.specs.RuleParts.{unless_split_postings}
use Rattle.thes_base.specs.Legal.{IsLegalState}
use Rattle.thes_base.proofs.RefusalRuleLemmas.{passed_unless}
use Rattle.thes_base.proofs.NumberedLemmas.{numbered_bound}

either_one : (p q : Bool) → (p ≡ true → q ≡ false) → cond (p || q) 1 0 ≡ cond p 1 0 + cond q 1 0
either_one true true apart = let e = apart refl in absurd (cc)
either_one true false apart = refl
either_one false true apart = refl
either_one false false apart = refl

-- If no history passes both tests, the number of those that pass either is the sum of the numbers that pass each.
count_either : (p q : History → Bool) → ((h : History) → p h ≡ true → q h ≡ false) → (hs : List History)
    → count_by (λ h. p h || q h) hs ≡ count_by p hs + count_by q hs
count_either p q apart [] = refl
count_either p q apart (h ∷ hs) =
    let a = sum_by-cons (λ x. cond (p x || q x) 1 0) h hs in
    let b = sum_by-cons (λ x. cond (p x) 1 0) h hs in
    let c = sum_by-cons (λ x. cond (q x) 1 0) h hs in
    let ih = count_either p q apart hs in
    let one = either_one (p h) (q h) (apart h) in
    omega (arith, a, b, c, ih, one)

count_nothing : (hs : List History) → count_by (λ h. false) hs ≡ 0
count_nothing [] = refl
count_nothing (h ∷ hs) = let a = sum_by-cons (λ (x : History). 0) h hs in let ih = count_nothing hs in
    omega (arith, a, ih)

-- The histories have the numbers from `first` on, in order.
abbrev pub NumberedFrom : ℕ → List History → Type 0
NumberedFrom first [] = Unit {0}
NumberedFrom first (h ∷ hs) = (h.number ≡ first) × NumberedFrom (first + 1) hs

pub numbered_from : (first : ℕ) (hs : List History) → ((i : ℕ) (h : History) → slice_get hs i ≡ Some h → h.number
    ≡ first + i) → NumberedFrom first hs
numbered_from first [] each = tt
numbered_from first (h ∷ hs) each = (
  (let e = each 0 h refl in omega (arith, e)),
  numbered_from (first + 1) hs (λ i g at. let e = each (suc i) g at in omega (arith, e)),
)

-- Of numbered histories, none has a number outside their range, and exactly one has a given number of the range.
module _ (n : ℕ) where
  abbrev has_number : History → Bool
  has_number h = eqb n h.number

  count_hit : (h : History) (hs : List History) → has_number h ≡ true → count_by has_number (h ∷ hs) ≡ 1
      + count_by has_number hs
  count_hit h hs e = sum_by-cons (λ x. cond (has_number x) 1 0) h hs ∙ ap (λ b. cond b 1 0 + count_by has_number hs) e

  count_miss : (h : History) (hs : List History) → has_number h ≡ false → count_by has_number (h ∷ hs)
      ≡ count_by has_number hs
  count_miss h hs e = grind (arith, common_steps, sum_by-cons)

  count_above : (first : ℕ) (hs : List History) → NumberedFrom first hs → n < first → count_by has_number hs ≡ 0
  count_above first [] from above = refl
  count_above first (h ∷ hs) from above =
      let at = from.0 in
      count_miss h hs (ne_eqb n h.number (omega (arith, at))) ∙ count_above (first + 1) hs from.1 (omega arith)

  -- Each number of the range belongs to exactly one history.
  count_once : (first : ℕ) (hs : List History) → NumberedFrom first hs → first ≤ n → n < first + length hs
      → count_by has_number hs ≡ 1
  count_once first [] from least most = absurd (omega arith)
  count_once first (h ∷ hs) from least most =
      let at = from.0 in
      elim (cases_Bool (has_number h)) [
        | inl hit ↦
            let same = eqb-true n h.number hit in
            let a = count_hit h hs hit in
            let rest = count_above (first + 1) hs from.1 (omega (arith, same, at)) in
            omega (arith, a, rest)
        | inr miss ↦
            let other = eqb-false n h.number miss in
            count_miss h hs miss ∙ count_once (first + 1) hs from.1 (omega (arith, other, at)) (omega arith)
      ]

-- A list of numbers of different postings lists as many histories as it has numbers.
count_listed : (hs : List History) → NumberedFrom 1 hs → (ns : List ℕ) → EachOnce ns → EachListed (IsKnownPosting hs)
    ns → count_by (is_listed ns) hs ≡ length ns
count_listed hs from [] once known = count_nothing hs
count_listed hs from (n ∷ ns) once known =
    let others : (h : History) → has_number n h ≡ true → is_listed ns h ≡ false =
    λ h hit. ap (λ k. list_any (λ m. eqb m k) ns) (sym (eqb-true n h.number hit)) ∙ once.0 in
    let both = count_either (has_number n) (is_listed ns) others hs in
    let bound = numbered_bound hs n known.0.0 known.0.1 in
    let one = count_once n 1 hs from bound.0 (let top = bound.1 in omega arith) in
    let ih = count_listed hs from ns once.1 known.1 in
    omega (arith, both, one, ih)

-- An accepted split lists as many postings as it has numbers.
pub listed_count : (base : List ℕ) (s : State) (source : ℕ) (postings : List ℕ) → IsLegalState base s
    → unless_split_postings s.histories source postings accepted None → count_by (is_listed postings) s.histories
    ≡ length postings
listed_count base s source postings legal row =
    let once = passed_unless row in
    let known = passed_unless once.1 in
    let from = numbered_from 1 s.histories (λ i h at. let e = (legal.postings.sound (suc i) h at).number in
    omega (arith, e)) in
    count_listed s.histories from postings once.0 known.0
