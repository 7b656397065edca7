use Rattle.thes_plans.proofs.PlanLawLemmas.{single_plan_is_request}
use Rattle.thes_plans.proofs.laws.single_plan_is_request.Goals as goal

pub returns : goal.returns
returns c = single_plan_is_request
