use Rattle.std.proofs.Common.{◌≡◌, take, map}
use Rattle.thes_tables.specs.Tables.{is_assigned_row}
use Rattle.thes_store.specs.Reading.{row_number}
use Rattle.thes_store.specs.RowsAtPositions.{rows_at_positions}
use Rattle.thes_store.proofs.mem.numbers_at.Given as goal

abbrev pub invariant-loop-position : goal.invariant-loop-position
invariant-loop-position l = l.numbers.items
    ≡ map row_number (rows_at_positions (is_assigned_row l.concept) l.rows (take l.position-index l.positions))
