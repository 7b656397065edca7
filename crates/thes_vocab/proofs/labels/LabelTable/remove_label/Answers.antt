use Rattle.std.proofs.Common.{◌∙◌, ap}
use Rattle.std.specs.FinSet as set
use Rattle.thes_base.specs.Changes.{label}
use Rattle.thes_base.specs.Data.{LabelData}
use Rattle.thes_vocab.proofs.labels.LabelTable.remove_label.Goals as goal

pub returns : goal.returns
returns c =
    let tag = ap (λ (d : LabelData). d.tag) c.label.view_is in
    c.remove.ensures
    ∙ (λ i. set.remove c.args.self.now (label c.args.owner (c.kind.ensures i) (tag i) (c.text.ensures i)))
