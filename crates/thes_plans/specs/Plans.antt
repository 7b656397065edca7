-- The outcome of a plan, and the state after it, by the machine's steps.
use Rattle.std.specs.Prelude.{◌≡◌, ◌+◌, ◌<◌, ◌≤◌, List, [], Some, length, take}
use Rattle.std.specs.List.{AllByRecursion}
use Rattle.thes_base.specs.Types.{Number}
use Rattle.thes_base.specs.Resources.{entry_at}
use Rattle.thes_base.specs.declared.fault.Refusal.{Refusal}
use Rattle.thes_base.specs.declared.request.Answer.{Answer}
use Rattle.thes_base.specs.declared.request.Answer.TheVariants as reply
use Rattle.thes_base.specs.Machine.{Run, Step}
use Rattle.thes_base.specs.Refusals.{Setting}
use Rattle.thes_base.specs.State.{State}
use Rattle.thes_plans.specs.declared.plan.PlanOutcome.{PlanOutcome}
use Rattle.thes_plans.specs.declared.plan.PlanOutcome.TheVariants.{Done, Refused}
use Rattle.thes_plans.specs.declared.plan.PlanRequest.{PlanRequest}
use Rattle.thes_plans.specs.Resolving.{resolved_command, resolved_commands}

-- The answer isn't a refusal.
abbrev pub IsNoRefusal : Answer → Type 0
IsNoRefusal (reply.No refusal) = ⊥
IsNoRefusal _ = Unit {0}

-- Each request of the plan, in the state after those before it, is accepted, or repeats a known key. Its references are
-- replaced by the numbers in the answers before it.
pub record PlanAccepted (setting : Setting) (s : State) (plan : List PlanRequest) (answers : List Answer)
    (t : State) : Type 0 where
  pub each : length answers ≡ length plan
  pub run : Run setting s (resolved_commands [] plan answers) answers t
  pub accepted : AllByRecursion IsNoRefusal answers

-- The request at the place is refused in the state after the requests before it, which are accepted.
pub record PlanRefused (setting : Setting) (s : State) (plan : List PlanRequest) (place : Number)
    (refusal : Refusal) : Type 0 where
  pub asked : PlanRequest
  pub at : entry_at plan place ≡ Some asked
  pub answers : List Answer
  pub place_is : place ≡ length answers + 1
  pub state_before : State
  pub before : PlanAccepted setting s (take (length answers) plan) answers state_before
  pub refused : Step setting state_before (resolved_command answers asked) (reply.No refusal) state_before

-- A plan, performed from a state, has this outcome and leads to the state `t`: all its requests are accepted, or the
-- first that is refused decides, and the state is the one before the plan.
abbrev pub IsPlanOutcome : Setting → State → List PlanRequest → PlanOutcome → State → Type 0
IsPlanOutcome setting s plan (Done answers) t = PlanAccepted setting s plan answers.items t
IsPlanOutcome setting s plan (Refused place refusal) t = PlanRefused setting s plan place refusal × (t ≡ s)

-- An outcome that isn't a refusal has one answer for each request; a refusal has the place of a request of the plan.
abbrev pub HasEachAnswer : List PlanRequest → PlanOutcome → Type 0
HasEachAnswer plan (Done answers) = length answers.items ≡ length plan
HasEachAnswer plan (Refused place refusal) = (0 < place) × (place ≤ length plan)
