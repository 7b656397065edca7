use Rattle.thes_requests.proofs.ReportWriteLemmas.{err_after}
use Rattle.thes_requests.proofs.plan_reply.Report.write.Goals as goal

pub returns-clause-err : goal.returns-clause-err
returns-clause-err g c =
    rw (← c.as_bytes.ensures, ← c.as_bytes-2.ensures)
    (err_after c.write_all-2.result _ _ _ _ _ c.in_ok-write_all.ensures.ok c.write_all-2.ensures.err)
