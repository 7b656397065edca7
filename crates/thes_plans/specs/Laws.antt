-- Laws of plans. Each is the contract of a public function of src/laws.rt.
use Rattle.std.specs.Prelude.{◌≡◌, ◌↔◌, ◌⊎◌, List, [], ◌∷◌, None}
use Rattle.std.specs.List.{AllByRecursion}
use Rattle.thes_base.specs.Types.{Number}
use Rattle.thes_base.specs.declared.fault.Refusal.{Refusal}
use Rattle.thes_base.specs.declared.request.Answer.{Answer}
use Rattle.thes_base.specs.declared.request.Answer.TheVariants as reply
use Rattle.thes_base.specs.Headline.{IsConsistentState}
use Rattle.thes_base.specs.Legal.{IsLegalState}
use Rattle.thes_base.specs.Machine.{Step}
use Rattle.thes_base.specs.Refusals.{IsSetting, Setting}
use Rattle.thes_base.specs.State.{State}
use Rattle.thes_base.specs.Texts.{CommandHasForms}
use Rattle.thes_plans.specs.declared.plan.PlanOutcome.{PlanOutcome}
use Rattle.thes_plans.specs.declared.plan.PlanOutcome.TheVariants.{Done, Refused}
use Rattle.thes_plans.specs.declared.plan.PlanRequest.{PlanRequest}
use Rattle.thes_plans.specs.Entries.{Entry, EntryOutcome, SingleRequest, WholePlan, EntriesRun}
use Rattle.thes_plans.specs.Plans.{IsNoRefusal, IsPlanOutcome, PlanAccepted, PlanRefused}

-- The request has no references.
pub record HasNoReferences (asked : PlanRequest) : Type 0 where
  pub first : asked.first ≡ None
  pub second : asked.second ≡ None
  pub postings : asked.postings.items ≡ []

-- A plan of one request has this outcome if the request gets this answer.
abbrev pub IsOutcomeOfAnswer : PlanOutcome → Answer → Type 0
IsOutcomeOfAnswer (Done answers) answer = (answers.items ≡ answer ∷ []) × IsNoRefusal answer
IsOutcomeOfAnswer (Refused place refusal) answer = (place ≡ 1) × (answer ≡ reply.No refusal)

-- A plan of one request without references has the outcome of that request, and leads to the same state.
abbrev pub SinglePlanIsRequest : Type 0
SinglePlanIsRequest =
    (setting : Setting) (s t : State) (asked : PlanRequest) (outcome : PlanOutcome) → HasNoReferences asked
    → IsPlanOutcome setting s (asked ∷ []) outcome t
    ↔ ((answer : Answer) × Step setting s asked.command answer t × IsOutcomeOfAnswer outcome answer)

-- Each text of the plan's requests has its form.
abbrev pub PlanHasForms : List PlanRequest → Type 0
PlanHasForms plan = AllByRecursion (λ asked. CommandHasForms asked.command) plan

-- A plan whose texts have their forms leaves a legal state legal and consistent.
abbrev pub PlanKeepsLegal : Type 0
PlanKeepsLegal =
    (setting : Setting) → IsSetting setting → (s t : State) (plan : List PlanRequest) (outcome : PlanOutcome)
    → PlanHasForms plan → IsLegalState setting.base s → IsPlanOutcome setting s plan outcome t
    → IsLegalState setting.base t × IsConsistentState setting.base t

-- Both outcomes are the same: the same answers, or the same refusal at the same place.
abbrev pub IsSameOutcome : PlanOutcome → PlanOutcome → Type 0
IsSameOutcome (Done xs) (Done ys) = xs.items ≡ ys.items
IsSameOutcome (Refused place refusal) (Refused other_place other) = (place ≡ other_place) × (refusal ≡ other)
IsSameOutcome (Done xs) (Refused place refusal) = ⊥
IsSameOutcome (Refused place refusal) (Done ys) = ⊥

-- A plan whose texts have their forms, performed from a legal state, has at most one outcome and at most one state
-- after it.
abbrev pub OnePlanOutcome : Type 0
OnePlanOutcome =
    (setting : Setting) → IsSetting setting → (s t u : State) (plan : List PlanRequest) (one other : PlanOutcome)
    → PlanHasForms plan → IsLegalState setting.base s → IsPlanOutcome setting s plan one t
    → IsPlanOutcome setting s plan other u → IsSameOutcome one other × (t ≡ u)

-- Every plan is accepted or refused in every state: that it is neither is contradictory.
abbrev pub SomePlanOutcome : Type 0
SomePlanOutcome =
    (setting : Setting) (s : State) (plan : List PlanRequest)
    → ¬ (¬ (((answers : List Answer) × (t : State) × PlanAccepted setting s plan answers t)
    ⊎ ((place : Number) × (refusal : Refusal) × PlanRefused setting s plan place refusal)))

-- Each text of the entry has its form.
abbrev pub EntryHasForms : Entry → Type 0
EntryHasForms (SingleRequest command) = CommandHasForms command
EntryHasForms (WholePlan plan) = PlanHasForms plan

-- Each text of the requests and plans has its form.
abbrev pub EntriesHaveForms : List Entry → Type 0
EntriesHaveForms entries = AllByRecursion EntryHasForms entries

-- Requests and plans whose texts have their forms leave a legal state legal and consistent, whatever their outcomes.
abbrev pub EntriesKeepLegal : Type 0
EntriesKeepLegal =
    (setting : Setting) → IsSetting setting → (s t : State) (entries : List Entry) (outcomes : List EntryOutcome)
    → EntriesHaveForms entries → IsLegalState setting.base s → EntriesRun setting s entries outcomes t
    → IsLegalState setting.base t × IsConsistentState setting.base t

-- A list of requests and plans whose texts have their forms, performed from a legal state, has at most one list of
-- outcomes and at most one state after it.
abbrev pub OneListOfOutcomes : Type 0
OneListOfOutcomes =
    (setting : Setting) → IsSetting setting → (s t u : State) (entries : List Entry) (xs ys : List EntryOutcome)
    → EntriesHaveForms entries → IsLegalState setting.base s → EntriesRun setting s entries xs t
    → EntriesRun setting s entries ys u → (xs ≡ ys) × (t ≡ u)

-- Every list of requests and plans has outcomes in every state: that it has none is contradictory.
abbrev pub SomeListOfOutcomes : Type 0
SomeListOfOutcomes =
    (setting : Setting) (s : State) (entries : List Entry)
    → ¬ (¬ ((outcomes : List EntryOutcome) × (t : State) × EntriesRun setting s entries outcomes t))
