use Rattle.std.proofs.Common.{◌≡◌, List, take, map}
use Rattle.thes_tables.specs.declared.rows.MoveRow.{MoveRow}
use Rattle.thes_tables.specs.Cells.{move_cells}
use Rattle.thes_tables.specs.Tables.{recorded_move}
use Rattle.thes_sql.specs.StoredRows.{values}
use Rattle.thes_sqlite.proofs.rows.read_moves.Given as goal

abbrev pub invariant-loop-row : goal.invariant-loop-row
invariant-loop-row l = (steps : List MoveRow) → l.rows ≡ map values (map move_cells steps)
    → l.moves ≡ map recorded_move (take l.row-index steps)
