use Rattle.std.proofs.Common.{Some, sym, subst}
use Rattle.sqlite.specs.Held.{state}
use Rattle.thes_base.specs.declared.fault.Table.TheVariants as table
use Rattle.thes_sql.specs.Reads.{read_text}
use Rattle.thes_sql.specs.Queries.{Finds}
use Rattle.thes_sqlite.proofs.MigrationLemmas.{rows_judged, meta_unread}
use Rattle.thes_sqlite.proofs.migrating.check_version.Goals as goal

pub returns-in-Ok-clause-judged : goal.returns-in-Ok-clause-judged
returns-in-Ok-clause-judged g c = rows_judged g.S.Store c.args.conn.now c.version_rows.new.conn c.as_slice.result.now
    c.is_version_1.result
    (λ clean. subst (λ rows. Finds (read_text table.Meta) (state g.S.Store c.args.conn.now).now (Some rows))
    (sym c.as_slice.ensures.value) (c.in-Ok.ensures.finds clean).0) c.is_version_1.ensures.judged

pub returns-in-Err-clause-judged : goal.returns-in-Err-clause-judged
returns-in-Err-clause-judged g c = meta_unread g.S.Store c.args.conn.now c.version_rows.new.conn c.in-Err.error
    c.meta_fault.result c.meta_fault.ensures.is (λ clean. (c.in-Err.ensures.finds clean).1)
