use Rattle.thes_plans.proofs.PlanOutcomeLemmas.{some_plan_outcome}
use Rattle.thes_plans.proofs.laws.some_plan_outcome.Goals as goal

pub returns : goal.returns
returns c = some_plan_outcome
