use Rattle.std.proofs.Common.{◌∙◌, sym, ap, subst}
use Rattle.std.specs.Prelude.{None}
use Rattle.std.specs.FinSet as set
use Rattle.thes_base.specs.Data.{LabelData}
use Rattle.thes_base.specs.Labels.{Labels}
use Rattle.thes_base.specs.Machine.{owned_label}
use Rattle.thes_base.specs.RefusalRules.{accepted}
use Rattle.thes_base.specs.Changes.{label}
use Rattle.thes_base.specs.RuleParts.{unless_droppable}
use Rattle.thes_vocab.specs.Vocabulary.{Vocabulary}
use Rattle.thes_vocab.specs.Consistency.{IsConsistentVocabulary}
use Rattle.thes_vocab.proofs.ConsistencyLemmas.{kept_dropped}
use Rattle.thes_vocab.proofs.vocab.Vocab.drop_label.Goals as goal

pub invariant_of-self : goal.invariant_of-self
invariant_of-self c =
    let inside = c.self.inside in
    let l = owned_label c.args.owner c.args.label.now in
    let row = subst (λ (v : Vocabulary). unless_droppable v.labels l accepted None) (sym c.self.view_is)
    c.requires.allowed in
    let tag = ap (λ (d : LabelData). d.tag) c.label.view_is in
    let labels = c.remove.ensures
    ∙ (λ i. set.remove inside.labels (label c.args.owner (c.kind.ensures i) (tag i) (c.text.ensures i))) in
    subst (λ (labels : Labels). IsConsistentVocabulary inside.base inside.resources.items inside.iris labels
    inside.names inside.concepts) (sym labels)
    (kept_dropped inside.base inside.resources.items inside.iris inside.labels inside.names inside.concepts
    c.self.invariant l row)
