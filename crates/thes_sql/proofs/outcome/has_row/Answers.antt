use Rattle.std.proofs.Common.{refl, IfOk}
use Rattle.std.proofs.lemmas.Result.{IfOk-weaker}
use Rattle.thes_sql.proofs.ReadFrameLemmas.{leaves_alone}
use Rattle.thes_sql.proofs.outcome.has_row.Goals as goal

pub returns-in_err-query_all-clause-leaves : goal.returns-in_err-query_all-clause-leaves
returns-in_err-query_all-clause-leaves g c = (leaves_alone g.S.Store c.args.sql.now _ c.args.conn.now
    c.query_all.new.self c.query_all.result (λ rows. rows.items) c.requires c.query_all.ensures.ok
    c.query_all.ensures.mode c.query_all.ensures.err c.query_all.ensures.survives).tables

pub returns-clause-leaves : goal.returns-clause-leaves
returns-clause-leaves g c = (leaves_alone g.S.Store c.args.sql.now _ c.args.conn.now c.query_all.new.self
    c.query_all.result (λ rows. rows.items) c.requires c.query_all.ensures.ok c.query_all.ensures.mode
    c.query_all.ensures.err c.query_all.ensures.survives).tables
