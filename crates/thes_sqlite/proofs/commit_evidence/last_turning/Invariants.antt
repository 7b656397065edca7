use Rattle.std.proofs.Common.{◌≡◌, drop}
use Rattle.std.specs.Option.{option_or, option_copied}
use Rattle.thes_sqlite.specs.CommitEvidence as evidence
use Rattle.thes_sqlite.proofs.commit_evidence.last_turning.Given as goal

abbrev pub invariant-loop-change : goal.invariant-loop-change
invariant-loop-change l =
    option_or (evidence.last_turning l.changes (drop l.change-index l.changes)) (option_copied l.last)
    ≡ evidence.last_turning l.changes l.changes
