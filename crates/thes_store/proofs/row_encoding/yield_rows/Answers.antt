use Rattle.std.proofs.Common.{arith, List, map, sym, subst}
use Rattle.std.proofs.lemmas.Grind.{common_steps}
use Rattle.std.specs.Prelude.{Option, Some}
use Rattle.std.proofs.lemmas.List.{take_all, map-append}
use Rattle.std.proofs.lemmas.Simd.{map-map}
use Rattle.thes_base.specs.declared.fault.Table.{Table}
use Rattle.thes_tables.specs.declared.cells.Cell.{Cell}
use Rattle.thes_store.specs.Sinks.{SinkAcceptsPrefix}
use Rattle.thes_store.proofs.SinkLemmas.{part_accepted, part_refused}
use Rattle.thes_store.proofs.row_encoding.yield_rows.Goals as goal

pub loop-row-preserved : goal.loop-row-preserved
loop-row-preserved g c =
    let f : g.row.R.Denot → Table × Option (List Cell) = λ row. (c.args.name, Some (g.R.AsCells.cells_of row)) in
    part_accepted g.S.RowSink.gives (map f) (map-append f) c.args.rows.now c.loop-row.row-index c.row-item.result
    c.args.sink.now c.loop-row.sink c.yield_to.new.sink c.yield_to.result _ c.loop-row-test.true c.row-item.is
    c.loop-row.invariant c.in_default.is c.yield_to.ensures.yields

pub returns-in-Err-clause-yields : goal.returns-in-Err-clause-yields
returns-in-Err-clause-yields g c =
    let f : g.row.R.Denot → Table × Option (List Cell) = λ row. (c.args.name, Some (g.R.AsCells.cells_of row)) in
    subst (λ (l : List (Table × Option (List Cell))). SinkAcceptsPrefix g.S.RowSink.gives c.in-Err.fault
    c.args.sink.now l c.yield_to.new.sink)
    (sym (map-map (λ (row : List Cell). (c.args.name, Some row)) g.R.AsCells.cells_of c.args.rows.now))
    (part_refused g.S.RowSink.gives (map f) (map-append f) c.args.rows.now c.loop-row.row-index c.row-item.result
    c.in-Err.fault c.args.sink.now c.loop-row.sink c.yield_to.new.sink c.yield_to.result c.loop-row-test.true
    c.row-item.is c.loop-row.invariant c.in-Err.is c.yield_to.ensures.yields)

pub returns-clause-yields : goal.returns-clause-yields
returns-clause-yields g c = grind (arith, common_steps, take_all, map-map)
