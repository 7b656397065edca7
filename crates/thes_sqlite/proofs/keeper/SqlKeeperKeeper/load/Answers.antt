use Rattle.std.proofs.Common.{◌≡◌, ◌∙◌, List, ap, not, subst, IsTrue}
use Rattle.std.proofs.lemmas.Result.{on_ok_weaker}
use Rattle.thes_base.specs.declared.fault.Table.{Table}
use Rattle.thes_store.specs.Sinks.{SinkOutcome, sink_rows_of_tables}
use Rattle.sqlite.specs.Held.{state}
use Rattle.thes_sqlite.specs.KeeperView.{KeeperView, raw_of_keeper}
use Rattle.thes_sqlite.proofs.FoundRowLemmas.{database_passed, tables_passed, unwritten}
use Rattle.thes_sqlite.proofs.keeper.SqlKeeperKeeper.load.Goals as goal

pub returns-clause-yields : goal.returns-clause-yields
returns-clause-yields g c = λ up. subst (λ (names : List Table). SinkOutcome g.R.RowSink.gives c.args.sink.now
    (sink_rows_of_tables (raw_of_keeper g.S.Store c.args.self.now) names)
    c.yield_tables.result c.yield_tables.new.sink) c.tables_in_order.ensures (c.yield_tables.ensures.yields up)

pub returns-clause-found : goal.returns-clause-found
returns-clause-found g c =
    let settled = subst (λ (k : KeeperView _). IsTrue (state g.S.Store k.conn).is_open
    → (state g.S.Store k.conn).now ≡ (state g.S.Store k.conn).committed) c.self.view_is
    (c.is_autocommit-settled.ensures.settled (c.is_autocommit-settled.ensures.value ∙ ap not
    c.self.invariant.autocommit)) in
    let leaves = c.yield_tables.ensures.leaves in
    database_passed g.S.Store g.R.RowSink.gives c.args.self.now c.yield_tables.new.self c.args.sink.now
    c.yield_tables.result c.yield_tables.new.sink
    (unwritten g.S.Store c.args.self.now.conn c.yield_tables.new.self.conn leaves settled)
    (on_ok_weaker c.yield_tables.result (λ passed up.
    tables_passed g.R.RowSink.gives _ c.tables_in_order.ensures (state g.S.Store c.args.self.now.conn).now
    c.args.sink.now c.yield_tables.new.sink (passed up (settled (leaves.was up.0 up.1))))
    c.yield_tables.ensures.passes)

pub returns-clause-leaves : goal.returns-clause-leaves
returns-clause-leaves g c =
    let settled = subst (λ (k : KeeperView _). IsTrue (state g.S.Store k.conn).is_open
    → (state g.S.Store k.conn).now ≡ (state g.S.Store k.conn).committed) c.self.view_is
    (c.is_autocommit-settled.ensures.settled (c.is_autocommit-settled.ensures.value ∙ ap not
    c.self.invariant.autocommit)) in
    unwritten g.S.Store c.args.self.now.conn c.yield_tables.new.self.conn c.yield_tables.ensures.leaves settled
