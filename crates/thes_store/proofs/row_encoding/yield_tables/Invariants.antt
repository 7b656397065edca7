use Rattle.std.proofs.Common.{take}
use Rattle.thes_tables.specs.Cells.{cells_of_tables}
use Rattle.thes_store.specs.Sinks.{SinkAcceptsAll, sink_rows_of_tables}
use Rattle.thes_store.specs.Room.{tables_in_memory}
use Rattle.thes_store.proofs.row_encoding.yield_tables.Given as goal

abbrev pub invariant-loop-name : goal.invariant-loop-name
invariant-loop-name g l = SinkAcceptsAll g.S.RowSink.gives l.fn.sink
    (sink_rows_of_tables (cells_of_tables (tables_in_memory l.tables)) (take l.name-index l.names)) l.sink
