use Rattle.std.proofs.Common.{◌≡◌, take}
use Rattle.thes_tables.specs.Cells.{cells_of_tables}
use Rattle.thes_tables.specs.Rows.{DeltaFits, tables_after_delta}
use Rattle.thes_tables.specs.Tables.{Tables}
use Rattle.thes_store.specs.Storage.{KeepsStorage}
use Rattle.thes_plan_postings.specs.PlanPostings.{ArePlanRows}
use Rattle.thes_plan_postings.proofs.plan_postings.PlanPostings.record_changes.Given as goal

abbrev pub invariant-loop-change : goal.invariant-loop-change
invariant-loop-change g l = record {
  keeps : KeepsStorage (g.K.Keeper.view l.fn.keeper) (g.K.Keeper.view l.keeper);
  recorded : (g.K.Keeper.view l.keeper).is_up → (t now : Tables)
      → (g.K.Keeper.view l.fn.keeper).rows ≡ cells_of_tables t → DeltaFits l.changes now
      → ArePlanRows t.posting now.posting l.fn.self
      → ArePlanRows t.posting (tables_after_delta (take l.change-index l.changes) now).posting l.self;
}
