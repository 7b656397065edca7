use Rattle.std.proofs.Common.{◌≡◌, ◌∙◌, List, ap, sym, take}
use Rattle.std.proofs.lemmas.List.{take_all}
use Rattle.std.specs.FinSet as set
use Rattle.thes_base.specs.Data.{LabelData}
use Rattle.thes_vocab.specs.LabelRows.{labels_of_owner}
use Rattle.thes_vocab.proofs.LabelUndoLemmas.{difference_with_none, removed_next}
use Rattle.thes_vocab.proofs.labels.LabelTable.remove_all.Goals as goal

pub loop-label-init : goal.loop-label-init
loop-label-init c = sym (difference_with_none c.args.self.now)

pub loop-label-preserved : goal.loop-label-preserved
loop-label-preserved c =
    removed_next c.args.self.now c.args.owner c.args.labels.now c.loop-label.label-index c.label-item.result
    c.loop-label.self c.remove_label.new.self c.loop-label-test.true c.label-item.is c.loop-label.invariant
    c.remove_label.ensures

pub returns : goal.returns
returns c =
    let all : take c.loop-label.label-index c.args.labels.now ≡ c.args.labels.now =
    take_all c.loop-label.label-index c.args.labels.now c.loop-label-test.false in
    c.loop-label.invariant
    ∙ ap (λ (ls : List LabelData). set.difference c.args.self.now (labels_of_owner c.args.owner ls)) all
