use Rattle.std.proofs.Common.{take}
use Rattle.thes_store.specs.Sinks.{SinkAcceptsAll}
use Rattle.thes_store.specs.RowsAtPositions.{rows_at_positions}
use Rattle.thes_store.proofs.mem.yield_postings.Given as goal
use Rattle.thes_tables.specs.Tables.{is_assigned_row}

abbrev pub invariant-loop-position : goal.invariant-loop-position
invariant-loop-position g l = SinkAcceptsAll g.S.PostingSink.gives l.fn.sink
    (rows_at_positions (is_assigned_row l.concept) l.rows (take l.position-index l.positions)) l.sink
