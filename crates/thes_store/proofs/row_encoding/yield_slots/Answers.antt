use Rattle.std.proofs.Common.{arith, List, subst}
use Rattle.std.proofs.lemmas.Grind.{common_steps}
use Rattle.std.specs.Prelude.{Option}
use Rattle.std.proofs.lemmas.List.{take_all}
use Rattle.thes_store.specs.Sinks.{SinkAcceptsPrefix}
use Rattle.thes_store.proofs.SinkLemmas.{sink_rows_of_slots, slots_append, part_accepted, part_refused}
use Rattle.thes_store.proofs.row_encoding.yield_slots.Goals as goal

pub loop-slot-preserved : goal.loop-slot-preserved
loop-slot-preserved g c =
    part_accepted g.S.RowSink.gives (sink_rows_of_slots c.args.name g.R.AsCells.cells_of)
    (slots_append c.args.name g.R.AsCells.cells_of) c.as_slice-slots.result.now c.loop-slot.slot-index
    c.slot-item.result c.args.sink.now c.loop-slot.sink c.yield_slot.new.sink c.yield_slot.result
    c.in_default.field-0 c.loop-slot-test.true c.slot-item.is c.loop-slot.invariant c.in_default.is
    c.yield_slot.ensures.yields

pub returns-in-Err-clause-yields : goal.returns-in-Err-clause-yields
returns-in-Err-clause-yields g c =
    subst (λ (l : List (Option g.row.R.Denot)). SinkAcceptsPrefix g.S.RowSink.gives c.in-Err.fault c.args.sink.now
    (sink_rows_of_slots c.args.name g.R.AsCells.cells_of l) c.yield_slot.new.sink) c.as_slice-slots.ensures
    (part_refused g.S.RowSink.gives (sink_rows_of_slots c.args.name g.R.AsCells.cells_of)
    (slots_append c.args.name g.R.AsCells.cells_of) c.as_slice-slots.result.now c.loop-slot.slot-index
    c.slot-item.result c.in-Err.fault c.args.sink.now c.loop-slot.sink c.yield_slot.new.sink c.yield_slot.result
    c.loop-slot-test.true c.slot-item.is c.loop-slot.invariant c.in-Err.is c.yield_slot.ensures.yields)

pub returns-clause-yields : goal.returns-clause-yields
returns-clause-yields g c = grind (arith, common_steps, take_all, sink_rows_of_slots)
