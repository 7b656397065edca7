use Rattle.std.proofs.Common.{◌≡◌}
use Rattle.thes_tables.specs.Cells.{Raw}
use Rattle.thes_tables.specs.TableOrder.{table_no}
use Rattle.thes_load_rows.specs.Progress.{stage_table, HasRead}
use Rattle.thes_load_rows.proofs.stage.Stage.reach.Given as goal

-- The table with this index is current, and the stage is right for the rows read so far.
abbrev pub invariant-loop-i : goal.invariant-loop-i
invariant-loop-i l = (table_no (stage_table l.stage) ≡ l.i)
    × ((raw : Raw) → HasRead l.fn.self raw → HasRead l.stage raw)
