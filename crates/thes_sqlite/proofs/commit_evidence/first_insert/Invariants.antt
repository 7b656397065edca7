use Rattle.std.proofs.Common.{◌≡◌, drop}
use Rattle.std.specs.List.{find}
use Rattle.thes_sqlite.specs.CommitEvidence.{inserts_for_good}
use Rattle.thes_sqlite.proofs.commit_evidence.first_insert.Given as goal

abbrev pub invariant-loop-change : goal.invariant-loop-change
invariant-loop-change l = find inserts_for_good (drop l.change-index l.changes) ≡ find inserts_for_good l.changes
