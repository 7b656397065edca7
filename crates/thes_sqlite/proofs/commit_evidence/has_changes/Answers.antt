use Rattle.std.proofs.Common.{sym}
use Rattle.thes_sqlite.proofs.CommitEvidenceLemmas.{right_answer_by_change}
use Rattle.thes_sqlite.proofs.commit_evidence.has_changes.Goals as goal

pub returns-in-Ok-clause-answer : goal.returns-in-Ok-clause-answer
returns-in-Ok-clause-answer g c clean = right_answer_by_change c.args.changes.now _ c.in-Some.change.now c.in-Ok.found
    (sym c.in-Some.ensures) (c.in-Ok.ensures.shows clean)
