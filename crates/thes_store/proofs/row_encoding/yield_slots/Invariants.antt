use Rattle.std.proofs.Common.{take}
use Rattle.thes_store.specs.Sinks.{SinkAcceptsAll}
use Rattle.thes_store.proofs.SinkLemmas.{sink_rows_of_slots}
use Rattle.thes_store.proofs.row_encoding.yield_slots.Given as goal

abbrev pub invariant-loop-slot : goal.invariant-loop-slot
invariant-loop-slot g l = SinkAcceptsAll g.S.RowSink.gives l.fn.sink
    (sink_rows_of_slots l.name g.R.AsCells.cells_of (take l.slot-index l.slots)) l.sink
