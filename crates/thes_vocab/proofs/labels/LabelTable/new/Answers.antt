use Rattle.std.proofs.Common.{◌∙◌, ap, sym}
use Rattle.std.specs.FinSet as set
use Rattle.thes_base.specs.Labels.{label_cmp}
use Rattle.thes_vocab.specs.LabelRows.{labels_in}
use Rattle.thes_vocab.proofs.labels.LabelTable.new.Goals as goal

pub invariant_of-result : goal.invariant_of-result
invariant_of-result c = sym (ap (λ rows. set.len (labels_in rows)) c.new.ensures.items ∙ set.len-empty label_cmp)
