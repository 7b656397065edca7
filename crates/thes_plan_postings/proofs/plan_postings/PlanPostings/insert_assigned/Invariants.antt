use Rattle.std.proofs.Common.{◌≡◌, ◌||◌, ℕ, take}
use Rattle.std.specs.BTreeSet.{contains}
use Rattle.std.specs.Ordering.{nat_cmp}
use Rattle.thes_plan_postings.specs.PlanPostings.{is_assigned_candidate}
use Rattle.thes_plan_postings.proofs.plan_postings.PlanPostings.insert_assigned.Given as goal

abbrev pub invariant-loop-number : goal.invariant-loop-number
invariant-loop-number l = (n : ℕ) → contains nat_cmp l.numbers n ≡ (contains nat_cmp l.fn.numbers n
    || is_assigned_candidate l.self (take l.number-index l.candidates) l.concept l.by_tables n)
