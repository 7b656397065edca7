-- Requests and plans whose changes of rows are reported, and plans that are only tried.
use Rattle.std.specs.Prelude.{◌≡◌, List, [], Result, Ok, Err}
use Rattle.thes_base.specs.declared.data.Limits.{Limits}
use Rattle.thes_base.specs.declared.fault.Fault.{Fault}
use Rattle.thes_base.specs.declared.request.Answer.{Answer}
use Rattle.thes_base.specs.declared.request.Command.{Command}
use Rattle.thes_plans.specs.declared.plan.PlanOutcome.{PlanOutcome}
use Rattle.thes_plans.specs.declared.plan.PlanRequest.{PlanRequest}
use Rattle.thes_plans.specs.declared.plan.PlanRun.{PlanRun}
use Rattle.thes_plans.specs.declared.plan.PlanRun.TheVariants.{Perform, Try}
use Rattle.thes_tables.specs.declared.change.Change.{Change}
use Rattle.thes_tables.specs.Cells.{Raw, cells_of_tables}
use Rattle.thes_tables.specs.Rows.{tables_after_delta}
use Rattle.thes_store.specs.Storage.{StorageView}
use Rattle.thes_office.specs.Office.{ChangesNothing, OfficeView, SameTables, TablesAfterStep}
use Rattle.thes_office.specs.Plans.{PlanChangesNothing, TablesAfterPlan}

-- The request leads from the tables `old` to the tables `new`. These are the rows of the old tables with the changes
-- made one after another.
pub record StepWithChanges (limits : Limits) (old : Raw) (command : Command) (answer : Answer) (changes : List Change)
    (new : Raw) : Type 0 where
  pub step : TablesAfterStep limits old command answer new
  pub rows : new ≡ cells_of_tables (tables_after_delta changes step.tables_before.tables)
  pub none : ChangesNothing answer → changes ≡ []

-- The plan, if it is performed, leads from the tables `old` to the tables `new` with this outcome. These are the rows
-- of the old tables with the changes made one after another.
pub record PlanWithChanges (limits : Limits) (old : Raw) (plan : List PlanRequest) (outcome : PlanOutcome)
    (changes : List Change) (new : Raw) : Type 0 where
  pub performs : TablesAfterPlan limits old plan outcome new
  pub rows : new ≡ cells_of_tables (tables_after_delta changes performs.tables_before.tables)
  pub none : PlanChangesNothing outcome → changes ≡ []

-- The tables after a plan that leads from the tables `old` to the tables `next`: these if it is performed, and the old
-- ones if it is only tried.
abbrev pub tables_after_run : PlanRun → Raw → Raw → Raw
tables_after_run Perform old next = next
tables_after_run Try old next = old

-- If the storage is still up, the answer, the changes and the tables are those of the request, or a fault leaves the
-- tables unchanged.
abbrev pub ReportResult : {K : Type 0} → (K → StorageView) → OfficeView K → Command → Result Answer Fault
    → List Change → OfficeView K → Type 0
ReportResult view old command (Ok answer) changes new = (view new.keeper).is_up
    → StepWithChanges old.limits (view old.keeper).rows command answer changes (view new.keeper).rows
ReportResult view old command (Err fault) changes new = SameTables view old new

-- If the storage is still up, the outcome and the changes are those of the plan when it is performed, whether it is
-- performed or only tried, and the tables are those after it, or unchanged. A fault leaves the tables unchanged.
abbrev pub ReportPlanResult : {K : Type 0} → (K → StorageView) → OfficeView K → PlanRun → List PlanRequest
    → Result PlanOutcome Fault → List Change → OfficeView K → Type 0
ReportPlanResult view old run plan (Ok outcome) changes new = (view new.keeper).is_up → (next : Raw)
    × PlanWithChanges old.limits (view old.keeper).rows plan outcome changes next
    × ((view new.keeper).rows ≡ tables_after_run run (view old.keeper).rows next)
ReportPlanResult view old run plan (Err fault) changes new = SameTables view old new
