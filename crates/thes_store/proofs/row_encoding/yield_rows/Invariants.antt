use Rattle.std.proofs.Common.{take, map}
use Rattle.std.specs.Prelude.{Some}
use Rattle.thes_store.specs.Sinks.{SinkAcceptsAll}
use Rattle.thes_store.proofs.row_encoding.yield_rows.Given as goal

abbrev pub invariant-loop-row : goal.invariant-loop-row
invariant-loop-row g l = SinkAcceptsAll g.S.RowSink.gives l.fn.sink
    (map (λ row. (l.fn.name, Some (g.R.AsCells.cells_of row))) (take l.row-index l.rows)) l.sink
