use Rattle.std.proofs.Common.{sym}
use Rattle.std.specs.List.Sorted.{IsStrictlySortedBy}
use Rattle.thes_vocab.proofs.labels.LabelTable.of_owner.Goals as goal

pub returns-in-None : goal.returns-in-None
unfolding IsStrictlySortedBy
returns-in-None c = record { ordered = tt; each = λ l. sym (c.in-None.ensures l) }
