use Rattle.std.proofs.Common.{◌≡◌, map}
use Rattle.thes_tables.specs.Rows.{row_after_move_all}
use Rattle.thes_store.specs.RowsAtPositions.{rows_after_changes_at, KeepsRoom}
use Rattle.thes_store.proofs.tables.move_at_positions.Given as goal

abbrev pub invariant-loop-position : goal.invariant-loop-position
invariant-loop-position l =
    (l.postings.items ≡ rows_after_changes_at (row_after_move_all l.source l.target)
    (map (λ position. position.now) l.yielded) l.fn.postings.items) × KeepsRoom l.fn.postings l.postings
