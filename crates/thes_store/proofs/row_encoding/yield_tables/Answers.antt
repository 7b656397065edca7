use Rattle.std.proofs.Common.{arith, List, get_or, sym, subst, append-nil, rules}
use Rattle.std.proofs.lemmas.Grind.{common_steps}
use Rattle.std.specs.Prelude.{Option}
use Rattle.std.proofs.lemmas.List.{take_all}
use Rattle.thes_base.specs.declared.fault.Table.{Table}
use Rattle.thes_base.specs.declared.fault.Table.TheVariants as table
use Rattle.thes_tables.specs.declared.cells.Cell.{Cell}
use Rattle.thes_tables.specs.Cells.{cells_of_tables}
use Rattle.thes_store.specs.Sinks.{SinkOutcome, sink_rows_of_tables}
use Rattle.thes_store.specs.Room.{tables_in_memory}
use Rattle.thes_store.proofs.SinkLemmas.{tables_append, part_accepted, part_refused}
use Rattle.thes_store.proofs.row_encoding.yield_tables.Goals as goal

pub loop-name-preserved : goal.loop-name-preserved
loop-name-preserved g c =
    let raw = cells_of_tables (tables_in_memory c.args.tables.now) in
    let name = get_or c.args.names.now c.loop-name.name-index table.Meta in
    let one = subst (λ (l : List (Table × Option (List Cell))). SinkOutcome g.S.RowSink.gives c.loop-name.sink l
    c.yield_table.result c.yield_table.new.sink) (sym (append-nil _)) c.yield_table.ensures.yields in
    part_accepted g.S.RowSink.gives (sink_rows_of_tables raw) (tables_append raw) c.args.names.now
    c.loop-name.name-index name c.args.sink.now c.loop-name.sink c.yield_table.new.sink c.yield_table.result
    c.in_default.field-0 c.loop-name-test.true (search rules) c.loop-name.invariant c.in_default.is one

pub returns-in-Err-clause-yields : goal.returns-in-Err-clause-yields
returns-in-Err-clause-yields g c =
    let raw = cells_of_tables (tables_in_memory c.args.tables.now) in
    let name = get_or c.args.names.now c.loop-name.name-index table.Meta in
    let one = subst (λ (l : List (Table × Option (List Cell))). SinkOutcome g.S.RowSink.gives c.loop-name.sink l
    c.yield_table.result c.yield_table.new.sink) (sym (append-nil _)) c.yield_table.ensures.yields in
    part_refused g.S.RowSink.gives (sink_rows_of_tables raw) (tables_append raw) c.args.names.now
    c.loop-name.name-index name c.in-Err.fault c.args.sink.now c.loop-name.sink c.yield_table.new.sink
    c.yield_table.result c.loop-name-test.true (search rules) c.loop-name.invariant c.in-Err.is one

pub returns-clause-yields : goal.returns-clause-yields
returns-clause-yields g c = grind (arith, common_steps, take_all)
