use Rattle.std.proofs.lemmas.Result.{IfOk-weaker}
use Rattle.thes_sql.proofs.SelectLemmas.{rows_with_key, keyed_text, keyed_is_query}
use Rattle.thes_sql.proofs.ReadFrameLemmas.{leaves_alone}
use Rattle.thes_sql.proofs.reads.posting_rows_with_key.Goals as goal

pub returns-clause-shows : goal.returns-clause-shows
returns-clause-shows g c clean = IfOk-weaker c.query_all.result _ _
    (λ out shown t keeps. rows_with_key c.args.key.now _ _ t out.items keeps shown)
    (rw (c.params-to_sql.ensures, c.as_str.ensures.text) at (c.query_all.ensures.ok clean))

pub returns-clause-leaves : goal.returns-clause-leaves
returns-clause-leaves g c = leaves_alone g.S.Store keyed_text _ _ _ _ (λ rows. rows.items) keyed_is_query
    c.query_all.ensures.ok c.query_all.ensures.mode c.query_all.ensures.err c.query_all.ensures.survives
