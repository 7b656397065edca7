use Rattle.thes_plans.proofs.PlanLawLemmas.{plan_keeps_legal}
use Rattle.thes_plans.proofs.laws.plan_keeps_legal.Goals as goal

pub returns : goal.returns
returns c = plan_keeps_legal
