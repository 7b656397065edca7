use Rattle.std.proofs.Common.{take}
use Rattle.thes_plan_postings.specs.PlanPostings.{PlacesAll}
use Rattle.thes_plan_postings.proofs.plan_postings.PlanPostings.place_all.Given as goal

abbrev pub invariant-loop-number : goal.invariant-loop-number
invariant-loop-number l = PlacesAll l.fn.self l.self (take l.number-index l.numbers)
    (record { place = l.place; withdrawn = l.withdrawn })
