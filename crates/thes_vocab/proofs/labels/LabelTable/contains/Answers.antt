use Rattle.std.proofs.Common.{sym}
use Rattle.thes_vocab.specs.OwnLabels.{own_label}
use Rattle.thes_vocab.proofs.labels.LabelTable.contains.Goals as goal

pub returns-in-None : goal.returns-in-None
returns-in-None c = sym (c.in-None.ensures (own_label c.args.kind c.args.tag.now c.args.text.now))
