-- The effect of requests, queries and scripts on an office.
use Rattle.std.specs.Prelude.{◌≡◌, ◌≤◌, Bool, true, List, Result, Ok, IfOk}
use Rattle.thes_base.specs.declared.fault.Fault.{Fault}
use Rattle.thes_base.specs.declared.request.Answer.{Answer}
use Rattle.thes_base.specs.declared.request.Command.{Command}
use Rattle.thes_plans.specs.declared.plan.PlanOutcome.{PlanOutcome}
use Rattle.thes_plans.specs.declared.plan.PlanRequest.{PlanRequest}
use Rattle.thes_plans.specs.declared.plan.PlanRun.{PlanRun}
use Rattle.thes_tables.specs.declared.change.Change.{Change}
use Rattle.thes_store.specs.Storage.{StorageView}
use Rattle.thes_office.specs.QueryFrames.{InStateOfTables}
use Rattle.thes_office.specs.Office.{FaultBehaviour, TablesAfterRun, OfficeView, PerformResult, SameTables}
use Rattle.thes_office.specs.Plans.{RunPlanResult}
use Rattle.thes_office.specs.Reports.{ReportPlanResult, ReportResult}
use Rattle.thes_requests.specs.declared.handler.QueryAnswer.{QueryAnswer}
use Rattle.thes_requests.specs.declared.request.Query.{Query}
use Rattle.thes_exchange.specs.QueryAnswers.{IsQueryAnswer}
use Rattle.thes_requests.specs.RequestBehaviour.{RequestBehaviour}
use Rattle.thes_requests.specs.Serving.{LineBehaviour, Serves}

-- Whether an office accepts calls: always, since it reloads a stale copy of its tables.
abbrev pub is_always_open : {K : Type 0} → OfficeView K → Bool
is_always_open office = true

module _ {K : Type 0} (view : K → StorageView) where
  -- If the storage is up at the end, a command is performed by a step of the machine, whose next state the tables
  -- encode, or a fault leaves the tables unchanged.
  pub record OfficePerforms (old : OfficeView K) (command : Command) (result : Result Answer Fault)
      (new : OfficeView K) : Type 0 where
    pub fault_behaviour : FaultBehaviour view old new result
    pub performed : PerformResult view old command result new

  -- If the storage is up at the end, a query is answered with the line of its view, or with the refusal of its number,
  -- in the state that the tables encode, and the tables are unchanged.
  pub record OfficeShows (old : OfficeView K) (query : Query) (result : Result QueryAnswer Fault)
      (new : OfficeView K) : Type 0 where
    pub fault_behaviour : FaultBehaviour view old new result
    pub same : SameTables view old new
    pub viewed : IfOk result (λ v. (view new.keeper).is_up →
        InStateOfTables (view new.keeper).rows (λ s. IsQueryAnswer s query (Ok v)))

  -- If the storage is up at the end, an accepted plan leads to the state that its requests lead to, and has their
  -- answers; a refused plan leaves the tables unchanged, and so does a fault.
  pub record OfficePerformsPlan (old : OfficeView K) (plan : List PlanRequest) (result : Result PlanOutcome Fault)
      (new : OfficeView K) : Type 0 where
    pub fault_behaviour : FaultBehaviour view old new result
    pub performed : RunPlanResult view old plan result new

  -- If the storage is up at the end, a command is performed by a step of the machine, and the changes of rows lead from
  -- the rows before to those after; or a fault leaves the tables unchanged.
  pub record OfficeReports (old : OfficeView K) (command : Command) (result : Result Answer Fault)
      (changes : List Change) (new : OfficeView K) : Type 0 where
    pub fault_behaviour : FaultBehaviour view old new result
    pub with_changes : ReportResult view old command result changes new

  -- If the storage is up at the end, a plan is performed, or only tried, which leaves the tables unchanged; the changes
  -- of rows lead from the rows before to those after the plan when it is performed.
  pub record OfficeReportsPlan (old : OfficeView K) (run : PlanRun) (plan : List PlanRequest)
      (result : Result PlanOutcome Fault) (changes : List Change) (new : OfficeView K) : Type 0 where
    pub fault_behaviour : FaultBehaviour view old new result
    pub with_changes : ReportPlanResult view old run plan result changes new

  -- The behaviour of an office as a request handler, which may take plans.
  abbrev pub office_requests : Bool → RequestBehaviour (OfficeView K)
  office_requests takes = record {
    performs = OfficePerforms;
    reports = OfficeReports;
    shows = OfficeShows;
    takes_plans = λ office. takes;
    performs_plan = OfficePerformsPlan;
    reports_plan = OfficeReportsPlan;
  }

  -- A line is answered by a step of the machine, by a view of the state, or by the run of a plan; the
  -- answer may also be a form fault or a fault.
  abbrev pub OfficeServes : Bool → LineBehaviour (OfficeView K)
  OfficeServes takes = Serves (office_requests takes)

  -- If the storage is up at the end, a run of the machine leads from the old tables to the new ones, which encode a
  -- consistent state: each posting that isn't withdrawn is assigned to exactly one live concept, the counts add up, and
  -- the triples meet the conditions of SKOS.
  pub record IsReachedByRun (old new : OfficeView K) : Type 0 where
    pub limits : new.limits ≡ old.limits
    pub was : (view new.keeper).is_up → (view old.keeper).is_up
    pub later : (view old.keeper).failures ≤ (view new.keeper).failures
    pub goes_on : (view new.keeper).is_up → (commands : List Command) × (answers : List Answer)
        × TablesAfterRun old.limits (view old.keeper).rows commands answers (view new.keeper).rows
