-- The stage of a load after a row of some table, or after the report that the table can't be queried; the load may
-- already be past that table.
use Rattle.std.specs.Prelude.{◌≡◌, ◌≤◌, ◌<◌, false, List, Option, None, Some}
use Rattle.thes_base.specs.declared.fault.Fault.TheVariants as faults
use Rattle.thes_base.specs.declared.fault.Table.{Table}
use Rattle.thes_tables.specs.declared.cells.Cell.{Cell}
use Rattle.thes_tables.specs.Cells.{Raw}
use Rattle.thes_load_rows.specs.declared.stage.Stage.{Stage}
use Rattle.thes_load_rows.specs.declared.stage.Stage.TheVariants as stage
use Rattle.thes_tables.specs.TableOrder.{table_no}
use Rattle.thes_load_rows.specs.Progress.{HasRead, is_stopped, stage_table, raw_with_row, raw_without_table}

-- Unless the stage has stopped with a fault, it is right (`HasRead`) for some rows of cells.
abbrev pub IsOfRows : Stage → Type 0
IsOfRows stage = is_stopped stage ≡ false → (raw : Raw) × HasRead stage raw

-- The rows of all tables after a further row at the end of this table, or after the report (None) that the table can't
-- be queried.
abbrev pub with_news : Table → Option (List Cell) → Raw → Raw
with_news table None raw = raw_without_table table raw
with_news table (Some cells) raw = raw_with_row table cells raw

-- The current table of the stage is this one, or an earlier one.
abbrev pub IsInTurn : Table → Stage → Type 0
IsInTurn table stage = table_no (stage_table stage) ≤ table_no table

-- The stage after a row of a table, or after the report that the table can't be queried. If the table is the current
-- one or a later one, the stage has read the row or report. If the load is past the table, the stage has stopped with
-- `BadStore` of that table.
pub record NextStage (name : Table) (news : Option (List Cell)) (old new : Stage) : Type 0 where
  pub table_is : IsInTurn name old → stage_table new ≡ name
  pub reads : IsInTurn name old → (raw : Raw) → HasRead old raw → HasRead new (with_news name news raw)
  pub late :
      table_no name < table_no (stage_table old) → new ≡ stage.Stopped (faults.BadStore name) (stage_table old)
