use Rattle.std.proofs.lemmas.Grind.{common_steps}
use Rattle.std.proofs.Common.{◌≡◌, ◌+◌, [], ◌∷◌, ◌∙◌, ap, subst, arith}
use Rattle.std.specs.Prelude.{Some, Result}
use Rattle.thes_base.specs.declared.fault.Fault.{Fault}
use Rattle.thes_base.specs.declared.fault.Table.TheVariants as table
use Rattle.thes_tables.specs.Cells.{number_cell, resource_cells}
use Rattle.thes_store.specs.Sinks.{SinkOutcome}
use Rattle.thes_store.proofs.SinkLemmas.{resource_accepted, resource_refused}
use Rattle.thes_store.proofs.row_encoding.yield_resources.Goals as goal

pub loop-i-preserved : goal.loop-i-preserved
loop-i-preserved g c = grind (arith, common_steps, resource_accepted)

pub returns-in-Err-clause-yields : goal.returns-in-Err-clause-yields
returns-in-Err-clause-yields g c =
    let i = c.loop-i.i in
    let e : i + 1 ≡ 1 + i = omega arith in
    let handed = c.yield_resource.ensures.yields (1 + i) (c.row_number_cell.ensures ∙ ap number_cell e) in
    let refused =
    subst (λ (r : Result (Unit {0}) Fault). SinkOutcome g.S.RowSink.gives c.loop-i.sink
    ((table.Resource, Some (resource_cells (1 + i) c.index-rows-i.result)) ∷ []) r c.yield_resource.new.sink)
    c.in-Err.is handed in
    resource_refused g.S.RowSink.gives c.args.rows.now i c.index-rows-i.result c.in-Err.fault c.args.sink.now
    c.loop-i.sink c.yield_resource.new.sink c.loop-i-test.true c.index-rows-i.is c.loop-i.invariant refused
