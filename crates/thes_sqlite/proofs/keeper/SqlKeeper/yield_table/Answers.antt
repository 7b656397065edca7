use Rattle.std.proofs.Common.{◌∙◌, ap, sym}
use Rattle.std.specs.Prelude.{Err}
use Rattle.thes_sqlite.proofs.KeeperLoadLemmas.{table_yielded}
use Rattle.thes_sqlite.proofs.keeper.SqlKeeper.yield_table.Goals as goal

pub returns-in-Ok-clause-yields : goal.returns-in-Ok-clause-yields
returns-in-Ok-clause-yields g c = λ up.
    table_yielded g.S.Store g.R.RowSink.gives _ _ c.yield_table_rows.new.conn c.self.view_is c.self.invariant
    c.yield_table_rows.ensures.frame.tables c.args.name c.args.sink.now c.yield_table_rows.new.sink c.in-Ok.is
    c.yield_table_rows.ensures.yields.rows up.0 up.1

pub returns-in-Err-clause-yields : goal.returns-in-Err-clause-yields
returns-in-Err-clause-yields g c = λ up.
    table_yielded g.S.Store g.R.RowSink.gives _ _ c.yield_table_rows.new.conn c.self.view_is c.self.invariant
    c.yield_table_rows.ensures.frame.tables c.args.name c.args.sink.now c.yield_table_rows.new.sink
    (c.in-Err.is ∙ ap Err (sym c.count_fault.ensures.same)) c.yield_table_rows.ensures.yields.rows up.0 up.1
