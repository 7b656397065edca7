use Rattle.std.proofs.Common.{take}
use Rattle.thes_office.proofs.PlanFactLemmas.{PlanRowsRead}
use Rattle.thes_office.proofs.plan_facts.rows_in_plan.Given as goal

abbrev pub invariant-loop-number : goal.invariant-loop-number
invariant-loop-number g l =
    PlanRowsRead (g.K.Keeper.view l.fn.keeper) (g.K.Keeper.view l.keeper) l.postings
    (take l.number-index l.numbers) l.rows.items
