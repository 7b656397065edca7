use Rattle.std.proofs.Common.{◌+◌, ◌-◌, length}
use Rattle.thes_vocab.specs.LabelRows.{AreSameLabelRows}
use Rattle.thes_vocab.proofs.labels.open_row.Given as goal

abbrev pub invariant-opening : goal.invariant-opening
invariant-opening l = AreSameLabelRows l.fn.rows.items l.rows.items

abbrev pub decreases-opening : goal.decreases-opening
decreases-opening l = l.owner + 1 - length l.rows.items
