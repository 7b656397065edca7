-- The behaviour of a request handler.
use Rattle.std.specs.Prelude.{Bool, List, Result}
use Rattle.thes_base.specs.declared.fault.Fault.{Fault}
use Rattle.thes_base.specs.declared.request.Command.{Command}
use Rattle.thes_base.specs.declared.request.Answer.{Answer}
use Rattle.thes_plans.specs.declared.plan.PlanOutcome.{PlanOutcome}
use Rattle.thes_plans.specs.declared.plan.PlanRequest.{PlanRequest}
use Rattle.thes_plans.specs.declared.plan.PlanRun.{PlanRun}
use Rattle.thes_tables.specs.declared.change.Change.{Change}
use Rattle.thes_requests.specs.declared.handler.QueryAnswer.{QueryAnswer}
use Rattle.thes_requests.specs.declared.request.Query.{Query}

-- What a handler does for each command, query and plan: a relation between the state before, the request, the answer,
-- and the state after. A query may change the state, since a handler may reload. `takes_plans` states whether a handler
-- in a state takes plans from scripts and connections. `reports` and `reports_plan` also have the changes of rows that
-- the command or the plan makes.
pub record RequestBehaviour (S : Type 0) : Type 1 where
  pub performs : S → Command → Result Answer Fault → S → Type 0
  pub reports : S → Command → Result Answer Fault → List Change → S → Type 0
  pub shows : S → Query → Result QueryAnswer Fault → S → Type 0
  pub takes_plans : S → Bool
  pub performs_plan : S → List PlanRequest → Result PlanOutcome Fault → S → Type 0
  pub reports_plan : S → PlanRun → List PlanRequest → Result PlanOutcome Fault → List Change → S → Type 0
