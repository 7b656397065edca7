-- Decisions on the requests of a plan, one after another, before anything is committed.
use Rattle.std.specs.Prelude.{◌≡◌, ◌<◌, ◌≤◌, false, ℕ, List, [], Option, None, Some, length, Result, Ok, Err}
use Rattle.std.specs.List.{AllByRecursion}
use Rattle.thes_base.specs.declared.data.Limits.{Limits}
use Rattle.thes_base.specs.declared.fault.Fault.{Fault}
use Rattle.thes_base.specs.declared.fault.Refusal.{Refusal}
use Rattle.thes_base.specs.declared.request.Answer.{Answer}
use Rattle.thes_base.specs.declared.request.Answer.TheVariants as reply
use Rattle.thes_base.specs.declared.request.Command.{Command}
use Rattle.thes_base.specs.Refusals.{Setting}
use Rattle.thes_base.specs.State.{State}
use Rattle.thes_plans.specs.declared.plan.PlanOutcome.{PlanOutcome}
use Rattle.thes_plans.specs.declared.plan.PlanRequest.{PlanRequest}
use Rattle.thes_plans.specs.declared.plan.PlanRun.{PlanRun}
use Rattle.thes_plans.specs.declared.plan.PlanRun.TheVariants.{Perform, Try}
use Rattle.thes_plans.specs.Plans.{PlanAccepted, PlanRefused}
use Rattle.thes_tables.specs.declared.change.Change.{Change}
use Rattle.thes_tables.specs.Cells.{Raw, cells_of_tables}
use Rattle.thes_tables.specs.ChangeLaw.{AreChangesBetween}
use Rattle.thes_tables.specs.Rows.{tables_after_delta}
use Rattle.thes_tables.specs.Tables.{IsRowsOf, Tables}
use Rattle.thes_store.specs.Storage.{RawAfterChanges, StorageView}
use Rattle.thes_core.specs.CoreView.{CoreView, IsViewOf}
use Rattle.thes_core.specs.UndoLogs.{IsLogOf, IsTakenBack, IsUndoStep, StepsLead}
use Rattle.thes_core.specs.declared.undo_log.UndoStep.{UndoStep}
use Rattle.thes_office.specs.declared.plan.AskedPlan.{AskedPlan}
use Rattle.thes_office.specs.declared.plan.PlanDecision.{PlanDecision}
use Rattle.thes_office.specs.declared.plan.PlanDecision.TheVariants as plan
use Rattle.thes_office.specs.declared.plan.PlanProgress.{PlanProgress}
use Rattle.thes_office.specs.Groups.{IsDecided}
use Rattle.thes_office.specs.Office.{ChangesNothing, IsCopy}
use Rattle.thes_plan_postings.specs.PlanPostings.{ArePlanRows}
use Rattle.thes_office.specs.Reports.{PlanWithChanges, tables_after_run}
use Rattle.thes_office.specs.TablesOfState.{TablesOfState}

-- The refusal that an answer has; None for any other answer.
abbrev pub refusal_in : Answer → Option Refusal
refusal_in (reply.No refusal) = Some refusal
refusal_in _ = None

-- The request is decided in the state `s`, and the steps of the log lead on to the state after it.
pub record IsDecidedAndLogged (setting : Setting) (s : State) (command : Command) (answer : Answer)
    (old new : PlanProgress) (copy : CoreView) : Type 0 where
  pub decided : IsDecided setting s command answer old.decided.delta new.decided.delta copy
  pub steps : (first : State) → StepsLead (IsUndoStep setting) first old.log s
      → StepsLead (IsUndoStep setting) first new.log decided.state_after

-- The request is decided in the state `s`, which the tables `now` encode, and its changes of postings are recorded over
-- the tables `t` of the storage.
pub record IsDecidedInPlan (setting : Setting) (t now : Tables) (s : State) (command : Command) (answer : Answer)
    (old new : PlanProgress) (copy : CoreView) : Type 0 where
  pub decision : IsDecidedAndLogged setting s command answer old new copy
  pub postings_are : ArePlanRows t.posting (tables_after_delta decision.decided.changes now).posting new.postings

-- One more request of a plan is decided in the state of the core, and the postings that it changes are recorded.
abbrev pub DecidesRequest : Raw → PlanProgress → PlanProgress → CoreView → CoreView → Command → Answer → Type 0
DecidesRequest raw old new before after command answer = (t now : Tables) (s : State) → raw ≡ cells_of_tables t
    → IsRowsOf before.setting.base s now → IsViewOf before s → ArePlanRows t.posting now.posting old.postings
    → IsDecidedInPlan before.setting t now s command answer old new after

-- The requests of a plan are accepted from the state that the tables encode: their answers, their changes of rows, and
-- the core, which holds the state after them.
pub record PlanDecided (raw : Raw) (setting : Setting) (done : List PlanRequest) (answers : List Answer)
    (changes : List Change) (copy : CoreView) : Type 0 where
  pub state_before : State
  pub state_after : State
  pub shows : TablesOfState raw setting.base state_before
  pub holds : IsViewOf copy state_after
  pub accepted : PlanAccepted setting state_before done answers state_after
  pub leads : AreChangesBetween setting.base changes state_before state_after
  pub same : AllByRecursion ChangesNothing answers → changes ≡ []

-- The requests of a plan so far are accepted, their changes of postings are recorded, and the steps of the log lead
-- from the state before them to the state after them.
pub record PlanDecidedSoFar (raw : Raw) (setting : Setting) (done : List PlanRequest) (progress : PlanProgress)
    (copy : CoreView) : Type 0 where
  pub decided : PlanDecided raw setting done progress.decided.answers.items progress.decided.delta copy
  pub postings_are :
      ArePlanRows decided.shows.tables.posting
      (tables_after_delta progress.decided.delta decided.shows.tables).posting progress.postings
  pub steps : StepsLead (IsUndoStep setting) decided.state_before progress.log decided.state_after

-- A request of the plan is refused in the state after those before it. The core, unless it is unusable, holds the state
-- that the tables encode.
pub record PlanIsRefused (raw : Raw) (setting : Setting) (asked : List PlanRequest) (place : ℕ) (refusal : Refusal)
    (copy : CoreView) : Type 0 where
  pub state_before : State
  pub shows : TablesOfState raw setting.base state_before
  pub refused : PlanRefused setting state_before asked place refusal
  pub holds : copy.spent ≡ false → IsViewOf copy state_before

-- All requests of the plan are accepted, and the steps of the log lead from the state before them to the state after
-- them.
pub record PlanIsAccepted (raw : Raw) (setting : Setting) (asked : List PlanRequest) (answers : List Answer)
    (changes : List Change) (log : List UndoStep) (copy : CoreView) : Type 0 where
  pub decided : PlanDecided raw setting asked answers changes copy
  pub steps : StepsLead (IsUndoStep setting) decided.state_before log decided.state_after

-- The decision on a plan is right: from the state that the tables encode, all requests are accepted, or the one at this
-- place is refused.
abbrev pub IsPlanDecision : Raw → Setting → List PlanRequest → PlanDecision → CoreView → Type 0
IsPlanDecision raw setting asked (plan.Accepted answers changes log) copy =
    PlanIsAccepted raw setting asked answers.items changes log copy
IsPlanDecision raw setting asked (plan.Refused place refusal) copy = PlanIsRefused raw setting asked place refusal copy

-- After an accepted plan the core is usable; after a refused one it may be unusable. A usable core has the same base
-- and limits as before.
abbrev pub IsUsableAfter : CoreView → CoreView → PlanDecision → Type 0
IsUsableAfter old new (plan.Accepted answers changes log) = (new.spent ≡ false) × (new.setting ≡ old.setting)
IsUsableAfter old new (plan.Refused place refusal) = new.spent ≡ false → new.setting ≡ old.setting

-- An accepted plan has one answer for each request; the place of a refusal is that of a request of the plan.
abbrev pub HasEachDecision : List PlanRequest → PlanDecision → Type 0
HasEachDecision asked (plan.Accepted answers changes log) = length answers.items ≡ length asked
HasEachDecision asked (plan.Refused place refusal) = (0 < place) × (place ≤ length asked)

-- The core can take back an accepted plan by its log.
abbrev pub HasLogOf : CoreView → PlanDecision → Type 0
HasLogOf copy (plan.Accepted answers changes log) = IsLogOf log copy
HasLogOf copy (plan.Refused place refusal) = Unit {0}

-- The end of an accepted plan: its changes are committed, and the core is as it was; or, if the plan is only tried, the
-- tables are unchanged, and the core, unless it is unusable, is as before the steps of the log.
abbrev pub EndsPlan : PlanRun → StorageView → StorageView → List Change → List UndoStep → CoreView → CoreView → Type 0
EndsPlan Perform old new changes log copy copy' =
    (copy' ≡ copy) × (new.is_up → RawAfterChanges changes old.rows new.rows)
EndsPlan Try old new changes log copy copy' =
    (copy'.spent ≡ false → IsTakenBack log copy copy') × (new.is_up → new.rows ≡ old.rows)

-- If the storage is still up, the outcome and the changes are those of the plan when it is performed, and the tables
-- are those after it, or, if the plan is only tried, unchanged.
abbrev pub ReportsPlan : AskedPlan → StorageView → StorageView → Limits → Result PlanOutcome Fault → List Change
    → Type 0
ReportsPlan asked old new limits (Ok outcome) changes = new.is_up → (next : Raw)
    × PlanWithChanges limits old.rows asked.requests.items outcome changes next
    × (new.rows ≡ tables_after_run asked.run old.rows next)
ReportsPlan asked old new limits (Err fault) changes = Unit {0}

-- The core may decide a plan over the storage: it is usable, and while the storage is up, it holds the state that the
-- tables encode.
pub record MayDecidePlan (storage : StorageView) (copy : CoreView) : Type 0 where
  pub unspent : copy.spent ≡ false
  pub copies : storage.is_up → IsCopy storage.rows copy.setting.limits copy
