use Rattle.std.proofs.Common.{List, get_or, subst, refl, rules}
use Rattle.std.proofs.lemmas.List.{take_all}
use Rattle.thes_base.specs.declared.fault.Table.{Table}
use Rattle.thes_base.specs.declared.fault.Table.TheVariants as table
use Rattle.thes_store.specs.Sinks.{SinkAcceptsAll, sink_rows_of_tables}
use Rattle.sqlite.specs.Held.{state}
use Rattle.thes_sqlite.specs.KeeperView.{raw_of_keeper}
use Rattle.thes_sqlite.specs.FoundRows.{PassesNamed}
use Rattle.thes_sqlite.proofs.KeeperLemmas.{tables_then}
use Rattle.thes_sqlite.proofs.FoundRowLemmas.{found_begun, found_next}
use Rattle.thes_sqlite.proofs.KeeperLoadLemmas.{load_progress_next, load_progress_fault}
use Rattle.thes_sqlite.proofs.keeper.SqlKeeper.yield_tables.Goals as goal

pub loop-name-init : goal.loop-name-init
loop-name-init g c = (
  record {
    keeps = record { same = λ up. refl; was = λ up. up; count = refl };
    sink_accepts = λ up. refl;
    first = refl;
  },
  found_begun g.R.RowSink.gives g.S.Store c.args.self.now.conn c.args.sink.now,
)

pub loop-name-preserved : goal.loop-name-preserved
loop-name-preserved g c =
    let name = get_or c.args.names.now c.loop-name.name-index table.Meta in (
      load_progress_next _ _ c.args.names.now c.loop-name.name-index name _ _ c.yield_table.new.self _ _
          c.yield_table.new.sink c.yield_table.result c.loop-name-test.true (search rules) c.loop-name.invariant.0
          c.yield_table.ensures.yields c.yield_table.ensures.frame c.in_default.field-0 c.in_default.is,
      found_next _ _ c.args.names.now c.loop-name.name-index name _ _ c.yield_table.new.self.conn _ _
          c.yield_table.new.sink c.loop-name-test.true (search rules) c.loop-name.invariant.1
          c.yield_table.ensures.leaves (rw c.in_default.is at c.yield_table.ensures.passes),
    )

pub returns-in-Err-clause-yields : goal.returns-in-Err-clause-yields
returns-in-Err-clause-yields g c =
    let name = get_or c.args.names.now c.loop-name.name-index table.Meta in
    (load_progress_fault _ _ c.args.names.now c.loop-name.name-index name _ _ c.yield_table.new.self _ _
    c.yield_table.new.sink c.yield_table.result c.loop-name-test.true (search rules) c.loop-name.invariant.0
    c.yield_table.ensures.yields c.yield_table.ensures.frame c.in-Err.fault c.in-Err.is).0

pub returns-in-Err-clause-frame : goal.returns-in-Err-clause-frame
returns-in-Err-clause-frame g c =
    let name = get_or c.args.names.now c.loop-name.name-index table.Meta in
    (load_progress_fault _ _ c.args.names.now c.loop-name.name-index name _ _ c.yield_table.new.self _ _
    c.yield_table.new.sink c.yield_table.result c.loop-name-test.true (search rules) c.loop-name.invariant.0
    c.yield_table.ensures.yields c.yield_table.ensures.frame c.in-Err.fault c.in-Err.is).1

pub returns-clause-frame : goal.returns-clause-frame
returns-clause-frame g c = let keeps = c.loop-name.invariant.0.keeps in record {
  storage = record { same = keeps.same; was = keeps.was; cause = keeps.count };
  first = c.loop-name.invariant.0.first;
}

pub returns-clause-yields : goal.returns-clause-yields
returns-clause-yields g c = λ up. subst (λ (l : List Table). SinkAcceptsAll g.R.RowSink.gives c.args.sink.now
    (sink_rows_of_tables (raw_of_keeper g.S.Store c.args.self.now) l) c.loop-name.sink)
    (take_all c.loop-name.name-index c.args.names.now c.loop-name-test.false) (c.loop-name.invariant.0.sink_accepts up)

pub returns-in-Err-clause-leaves : goal.returns-in-Err-clause-leaves
returns-in-Err-clause-leaves g c = tables_then g.S.Store c.args.self.now.conn c.loop-name.self.conn
    c.yield_table.new.self.conn c.loop-name.invariant.1.leaves c.yield_table.ensures.leaves

pub returns-clause-leaves : goal.returns-clause-leaves
returns-clause-leaves g c = c.loop-name.invariant.1.leaves

pub returns-clause-passes : goal.returns-clause-passes
returns-clause-passes g c = λ up settled.
    subst (λ (l : List Table). PassesNamed g.R.RowSink.gives l (state g.S.Store c.args.self.now.conn).now
    c.args.sink.now c.loop-name.sink) (take_all c.loop-name.name-index c.args.names.now c.loop-name-test.false)
    (c.loop-name.invariant.1.passes up settled)
