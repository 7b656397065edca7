-- Plans: lists of requests, all of which are performed in one transaction, or none.
use Rattle.std.specs.Prelude.{◌≡◌, ℕ, List, Result, Ok, Err}
use Rattle.std.specs.List.{AllByRecursion}
use Rattle.thes_base.specs.declared.data.Limits.{Limits}
use Rattle.thes_base.specs.declared.fault.Fault.{Fault}
use Rattle.thes_base.specs.Headline.{IsConsistentState}
use Rattle.thes_base.specs.State.{State}
use Rattle.thes_plans.specs.declared.plan.PlanOutcome.{PlanOutcome}
use Rattle.thes_plans.specs.declared.plan.PlanOutcome.TheVariants.{Done, Refused}
use Rattle.thes_plans.specs.declared.plan.PlanRequest.{PlanRequest}
use Rattle.thes_plans.specs.Plans.{IsPlanOutcome}
use Rattle.thes_tables.specs.Cells.{Raw}
use Rattle.thes_store.specs.Storage.{StorageView}
use Rattle.thes_office.specs.TablesOfState.{TablesOfState}
use Rattle.thes_office.specs.Office.{ChangesNothing, OfficeView, SameTables, setting}

-- The plan is refused, or each of its requests repeats a known key.
abbrev pub PlanChangesNothing : PlanOutcome → Type 0
PlanChangesNothing (Done answers) = AllByRecursion ChangesNothing answers.items
PlanChangesNothing (Refused place refusal) = Unit {0}

-- The tables encode a state before the plan; after it, they encode the state to which the plan, performed from that
-- state, leads with this outcome. That state is consistent: each posting that isn't withdrawn is assigned to exactly
-- one live concept, the counts add up, and the triples meet the conditions of SKOS.
pub record TablesAfterPlan (limits : Limits) (old : Raw) (plan : List PlanRequest) (outcome : PlanOutcome)
    (new : Raw) : Type 0 where
  pub base : List ℕ
  pub state_before : State
  pub state_after : State
  pub tables_before : TablesOfState old base state_before
  pub performs : IsPlanOutcome (setting base limits) state_before plan outcome state_after
  pub shows : TablesOfState new base state_after
  pub in_order : IsConsistentState base state_after
  pub same : PlanChangesNothing outcome → new ≡ old

-- If the storage is still up, the outcome and the tables are those of the plan, or a fault leaves the tables unchanged.
abbrev pub RunPlanResult : {K : Type 0} → (K → StorageView) → OfficeView K → List PlanRequest
    → Result PlanOutcome Fault → OfficeView K → Type 0
RunPlanResult view old plan (Ok outcome) new = (view new.keeper).is_up
    → TablesAfterPlan old.limits (view old.keeper).rows plan outcome (view new.keeper).rows
RunPlanResult view old plan (Err fault) new = SameTables view old new
