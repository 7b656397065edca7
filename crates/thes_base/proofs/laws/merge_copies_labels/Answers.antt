use Rattle.thes_base.proofs.CopiedLabelLemmas.{merge_copies_labels}
use Rattle.thes_base.proofs.laws.merge_copies_labels.Goals as goal

pub returns : goal.returns
returns c = merge_copies_labels
