use Rattle.thes_jobs.proofs.DatabaseLemmas.{closed_holds, unclosed_holds}
use Rattle.thes_jobs.proofs.store_files.close_database_files.Goals as goal

pub returns-in-Ok : goal.returns-in-Ok
returns-in-Ok g c = λ clean. closed_holds c.args.conn c.in-Ok.files (c.in-Ok.ensures.closes clean)

pub returns-in-Err : goal.returns-in-Err
returns-in-Err g c = λ clean.
    unclosed_holds c.args.conn _ c.close.result c.close.ensures c.in-Err.ensures.fails clean
