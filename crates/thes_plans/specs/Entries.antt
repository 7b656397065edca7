-- Lists of requests and plans: the outcome of each, and the state after all of them.
use Rattle.std.specs.Prelude.{◌≡◌, List, [], ◌∷◌}
use Rattle.thes_base.specs.Types.{Number}
use Rattle.thes_base.specs.declared.fault.Refusal.{Refusal}
use Rattle.thes_base.specs.declared.request.Answer.{Answer}
use Rattle.thes_base.specs.declared.request.Command.{Command}
use Rattle.thes_base.specs.Machine.{Step}
use Rattle.thes_base.specs.Refusals.{Setting}
use Rattle.thes_base.specs.State.{State}
use Rattle.thes_plans.specs.declared.plan.PlanRequest.{PlanRequest}
use Rattle.thes_plans.specs.Plans.{PlanAccepted, PlanRefused}

-- An entry of a list: a request by itself, or a plan.
pub data Entry : Type 0 where
  SingleRequest : (command : Command) → Entry
  WholePlan : (plan : List PlanRequest) → Entry

-- The outcome of an entry: the answer to a request, the answers to all requests of a plan, or the first refusal in a
-- plan with its place.
pub data EntryOutcome : Type 0 where
  SingleAnswer : (answer : Answer) → EntryOutcome
  PlanAnswers : (answers : List Answer) → EntryOutcome
  PlanRefusal : (place : Number) (refusal : Refusal) → EntryOutcome

-- One entry, with its outcome and the state after it. A refused plan leaves the state unchanged.
abbrev pub EntryStep : Setting → State → Entry → EntryOutcome → State → Type 0
EntryStep setting s (SingleRequest command) (SingleAnswer answer) t = Step setting s command answer t
EntryStep setting s (WholePlan plan) (PlanAnswers answers) t = PlanAccepted setting s plan answers t
EntryStep setting s (WholePlan plan) (PlanRefusal place refusal) t =
    PlanRefused setting s plan place refusal × (t ≡ s)
EntryStep setting s (SingleRequest command) (PlanAnswers answers) t = ⊥
EntryStep setting s (SingleRequest command) (PlanRefusal place refusal) t = ⊥
EntryStep setting s (WholePlan plan) (SingleAnswer answer) t = ⊥

-- A list of requests and plans, performed one after another, with their outcomes and the state after them.
abbrev pub EntriesRun : Setting → State → List Entry → List EntryOutcome → State → Type 0
EntriesRun setting s [] [] t = t ≡ s
EntriesRun setting s (entry ∷ entries) (outcome ∷ outcomes) t =
    (mid : State) × EntryStep setting s entry outcome mid × EntriesRun setting mid entries outcomes t
EntriesRun setting s [] (outcome ∷ outcomes) t = ⊥
EntriesRun setting s (entry ∷ entries) [] t = ⊥
