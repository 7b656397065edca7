use Rattle.std.proofs.Common.{get_or, rules}
use Rattle.thes_tables.specs.Tables.{is_assigned_row}
use Rattle.thes_store.proofs.SinkLemmas.{position_accepted, position_refused}
use Rattle.thes_store.proofs.mem.yield_postings.Goals as goal

pub loop-position-preserved : goal.loop-position-preserved
loop-position-preserved g c = position_accepted g.S.PostingSink.gives (is_assigned_row c.args.concept) c.args.rows.now
    c.args.positions.now c.loop-position.position-index (get_or c.args.positions.now c.loop-position.position-index 0) _
    c.args.sink.now
    c.loop-position.sink c.yield_if_assigned.new.sink c.yield_if_assigned.result c.loop-position-test.true
    (search rules)
    c.loop-position.invariant c.posting_at.ensures c.yield_if_assigned.ensures.yields c.in_default.field-0
    c.in_default.is

pub returns-in-Err-clause-yields : goal.returns-in-Err-clause-yields
returns-in-Err-clause-yields g c = position_refused g.S.PostingSink.gives (is_assigned_row c.args.concept)
    c.args.rows.now
    c.args.positions.now c.loop-position.position-index (get_or c.args.positions.now c.loop-position.position-index 0) _
    c.args.sink.now
    c.loop-position.sink c.yield_if_assigned.new.sink c.yield_if_assigned.result c.loop-position-test.true
    (search rules)
    c.loop-position.invariant c.posting_at.ensures c.yield_if_assigned.ensures.yields c.in-Err.fault c.in-Err.is
