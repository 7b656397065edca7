use Rattle.std.proofs.Common.{◌≡◌, take, map}
use Rattle.thes_tables.specs.Tables.{recorded_move}
use Rattle.thes_store.specs.RowsAtPositions.{is_move_of, rows_at_positions}
use Rattle.thes_store.proofs.mem.moves_at.Given as goal

abbrev pub invariant-loop-position : goal.invariant-loop-position
invariant-loop-position l =
    l.moves ≡ map recorded_move (rows_at_positions (is_move_of l.posting) l.rows (take l.position-index l.positions))
