use Rattle.std.proofs.Common.{[]}
use Rattle.thes_base.specs.declared.fault.Table.TheVariants as table
use Rattle.thes_sql.specs.Reads.{read_text}
use Rattle.thes_sql.proofs.QueryTextLemmas.{table_is_query}
use Rattle.thes_sql.proofs.ReadFrameLemmas.{leaves_alone, keeps_database, found_result}
use Rattle.thes_sql.proofs.versions.version_rows.Goals as goal

pub returns-clause-finds : goal.returns-clause-finds
returns-clause-finds g c = λ clean. found_result (read_text table.Meta) _ _ (table_is_query table.Meta)
    (λ rows. rows.items) c.query_all.result (c.query_all.ensures.ok clean) (c.query_all.ensures.err clean)

pub returns-clause-kept : goal.returns-clause-kept
returns-clause-kept g c = keeps_database g.S.Store (read_text table.Meta) [] c.args.conn.now c.query_all.new.self _
    (λ rows. rows.items) (table_is_query table.Meta).0 c.query_all.ensures.ok

pub returns-clause-leaves : goal.returns-clause-leaves
returns-clause-leaves g c = leaves_alone g.S.Store (read_text table.Meta) [] _ _ _ (λ rows. rows.items)
    (table_is_query table.Meta).0 c.query_all.ensures.ok c.query_all.ensures.mode c.query_all.ensures.err
    c.query_all.ensures.survives
