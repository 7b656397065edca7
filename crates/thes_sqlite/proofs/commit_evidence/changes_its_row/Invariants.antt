use Rattle.std.proofs.Common.{◌≡◌, drop, cond, not}
use Rattle.thes_sql.specs.Traces.{row_of}
use Rattle.thes_sqlite.specs.CommitEvidence.{turns}
use Rattle.thes_sqlite.proofs.commit_evidence.changes_its_row.Given as goal

abbrev pub invariant-loop-other : goal.invariant-loop-other
invariant-loop-other l =
    cond l.is_changed (not (turns (drop l.other-index l.changes) (row_of l.change)))
    (turns (drop l.other-index l.changes) (row_of l.change)) ≡ turns l.changes (row_of l.change)
