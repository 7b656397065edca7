-- The behaviour of a service.
use Rattle.std.specs.Prelude.{◌≡◌, ℕ, List, Option, Result}
use Rattle.thes_base.specs.declared.fault.Fault.{Fault}
use Rattle.thes_base.specs.declared.request.Command.{Command}
use Rattle.thes_base.specs.declared.request.Answer.{Answer}
use Rattle.thes_plans.specs.declared.plan.PlanOutcome.{PlanOutcome}
use Rattle.thes_plans.specs.declared.plan.PlanRequest.{PlanRequest}
use Rattle.thes_plans.specs.declared.plan.PlanRun.{PlanRun}
use Rattle.thes_tables.specs.declared.change.Change.{Change}
use Rattle.thes_requests.specs.RequestBehaviour.{RequestBehaviour}
use Rattle.thes_requests.specs.declared.handler.QueryAnswer.{QueryAnswer}
use Rattle.thes_requests.specs.declared.request.Query.{Query}
use Rattle.thes_requests.specs.declared.request.Display.{Display}

-- The behaviour of a service: for commands, queries and plans, for a posting file, for an export, and for a display of
-- a scheme in the language of a tag. Each part is a relation between the state before, what is asked for, the answer,
-- and the state after.
pub record ServiceBehaviour (S : Type 0) : Type 1 where
  pub requests : RequestBehaviour S
  pub imports : S → List ℕ → Result (Option (List ℕ)) Fault → S → Type 0
  pub exports : S → Result (List ℕ) Fault → S → Type 0
  pub displays : S → Display → ℕ → List ℕ → Result QueryAnswer Fault → S → Type 0

-- Whatever a handler does for a request, the service does for it.
pub record DoesRequests {S : Type 0} (handler : RequestBehaviour S) (service : ServiceBehaviour S) : Type 0 where
  pub performs : (old : S) (command : Command) (result : Result Answer Fault) (new : S)
      → handler.performs old command result new → service.requests.performs old command result new
  pub reports : (old : S) (command : Command) (result : Result Answer Fault) (changes : List Change) (new : S)
      → handler.reports old command result changes new → service.requests.reports old command result changes new
  pub shows : (old : S) (query : Query) (result : Result QueryAnswer Fault) (new : S)
      → handler.shows old query result new → service.requests.shows old query result new
  pub takes_plans : (s : S) → handler.takes_plans s ≡ service.requests.takes_plans s
  pub performs_plan : (old : S) (plan : List PlanRequest) (result : Result PlanOutcome Fault) (new : S)
      → handler.performs_plan old plan result new → service.requests.performs_plan old plan result new
  pub reports_plan : (old : S) (run : PlanRun) (plan : List PlanRequest) (result : Result PlanOutcome Fault)
      (changes : List Change) (new : S) → handler.reports_plan old run plan result changes new
      → service.requests.reports_plan old run plan result changes new
