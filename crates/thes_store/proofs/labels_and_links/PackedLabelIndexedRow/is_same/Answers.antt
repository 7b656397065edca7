use Rattle.std.proofs.Common.{ap, ◌∙◌}
use Rattle.std.specs.Ordering.{eq_by_cmp, is_eq}
use Rattle.std.specs.Cmp.{both_ways, tied_itself, Equal-is}
use Rattle.thes_base.specs.Labels.{label_cmp}
use Rattle.thes_base.proofs.LabelSetLemmas.{labels_total, labels_exact}
use Rattle.thes_store.proofs.RowEqualityLemmas.{true_of, is_true_of}
use Rattle.thes_store.proofs.labels_and_links.PackedLabelIndexedRow.is_same.Goals as goal

pub returns : goal.returns
returns c = both_ways _ _
    (λ h. ap (λ x. eq_by_cmp label_cmp x c.args.other.now) (c.is_same.ensures.0 (is_true_of _ h))
    ∙ ap is_eq (tied_itself labels_total c.args.other.now))
    (λ h. true_of _
    (c.is_same.ensures.1
    (labels_exact c.args.self.now c.args.other.now ((Equal-is (label_cmp c.args.self.now c.args.other.now)).0
    h))))
