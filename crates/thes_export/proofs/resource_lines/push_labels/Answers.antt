use Rattle.std.proofs.Common.{◌≡◌, refl, arith}
use Rattle.thes_base.specs.Data.{LabelData}
use Rattle.thes_base.specs.Triples.{Triple}
use Rattle.thes_export.specs.Topics.{label_triple}
use Rattle.thes_export.proofs.LineAppendLemmas.{added_next, added_no_element, one_triple}
use Rattle.thes_export.proofs.resource_lines.push_labels.Goals as goal

pub loop-label-init : goal.loop-label-init
loop-label-init c = record { adds = grind (arith, added_no_element) }

pub loop-label-preserved : goal.loop-label-preserved
loop-label-preserved c = record {
  adds = added_next (λ (d : LabelData) (t : Triple). t ≡ label_triple c.args.about.now.core.now c.args.about.now.n d)
      c.labels_of-label-items.result.now c.loop-label.label-index c.label-item.result _ _ _ c.loop-label-test.true
      c.label-item.is c.loop-label.invariant.adds
      (one_triple (λ (t : Triple). t ≡ label_triple c.args.about.now.core.now c.args.about.now.n c.label-item.result)
      (label_triple c.args.about.now.core.now c.args.about.now.n c.label-item.result) _ _ _ c.in_ok-line.ensures
      refl (λ t e. e) c.in_ok-push_line.ensures);
}
