use Rattle.thes_plans.proofs.PlanOutcomeLemmas.{one_plan_outcome}
use Rattle.thes_plans.proofs.laws.one_plan_outcome.Goals as goal

pub returns : goal.returns
returns c = one_plan_outcome
