use Rattle.std.proofs.Common.{◌≡◌, take}
use Rattle.std.specs.FinSet as set
use Rattle.thes_vocab.specs.LabelRows.{labels_of_owner}
use Rattle.thes_vocab.proofs.labels.LabelTable.remove_all.Given as goal

-- The labels read so far are removed.
abbrev pub invariant-loop-label : goal.invariant-loop-label
invariant-loop-label l = l.self ≡ set.difference l.fn.self (labels_of_owner l.owner (take l.label-index l.labels))
