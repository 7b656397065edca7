use Rattle.std.proofs.lemmas.Result.{IfOk-weaker, IfErr-weaker}
use Rattle.sqlite_store.specs.Laws.{settled_at}
use Rattle.thes_sqlite.proofs.DatabaseFileLemmas.{closes_files, fails_to_close}
use Rattle.thes_sqlite.proofs.files.close_files.Goals as goal

pub returns-clause-closes : goal.returns-clause-closes
returns-clause-closes g c =
    IfOk-weaker c.close_files.result _ _
    (λ files copied clean. closes_files c.args.conn files c.schema.ensures.live (copied clean))
    c.close_files.ensures.copied

pub returns-clause-fails : goal.returns-clause-fails
returns-clause-fails g c =
    IfErr-weaker c.close_files.result _ _
    (λ failed closed clean. fails_to_close c.args.conn failed.1
    (settled_at c.args.conn.store g.met.D.Disk.seen_may_stay) c.schema.ensures.live closed.0 clean)
    c.close_files.ensures.err
