use Rattle.std.proofs.Common.{◌≡◌, drop}
use Rattle.std.specs.List.{list_any}
use Rattle.thes_sqlite.specs.CommitEvidence.{sets_places}
use Rattle.thes_sqlite.proofs.commit_evidence.set_places.Given as goal

abbrev pub invariant-loop-change : goal.invariant-loop-change
invariant-loop-change l = list_any sets_places (drop l.change-index l.changes) ≡ list_any sets_places l.changes
