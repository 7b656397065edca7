use Rattle.std.proofs.Common.{take, map}
use Rattle.std.specs.Prelude.{Some}
use Rattle.thes_base.specs.declared.fault.Table.TheVariants as table
use Rattle.thes_tables.specs.Cells.{resource_rows}
use Rattle.thes_store.specs.Sinks.{SinkAcceptsAll}
use Rattle.thes_store.proofs.row_encoding.yield_resources.Given as goal

abbrev pub invariant-loop-i : goal.invariant-loop-i
invariant-loop-i g l = SinkAcceptsAll g.S.RowSink.gives l.fn.sink
    (map (λ row. (table.Resource, Some row)) (resource_rows 1 (take l.i l.rows))) l.sink
