use Rattle.std.proofs.Common.{◌∙◌, ap, subst, sym}
use Rattle.std.specs.FinSet as set
use Rattle.thes_base.specs.Labels.{Labels}
use Rattle.thes_base.specs.Legal.{AreLegalLabels}
use Rattle.thes_vocab.specs.Consistency.{IsConsistentVocabulary}
use Rattle.thes_vocab.specs.LabelRows.{labels_of_owner}
use Rattle.thes_vocab.specs.Vocabulary.{Vocabulary, vocabulary_from, with_labels}
use Rattle.thes_vocab.proofs.LabelUndoLemmas.{kept_without_labels}
use Rattle.thes_vocab.proofs.vocab.Vocab.drop_labels.Goals as goal

pub invariant_of-self : goal.invariant_of-self
invariant_of-self c =
    let inside = c.self.inside in
    let gone = labels_of_owner c.args.owner c.args.labels.now in
    subst (λ (labels : Labels). IsConsistentVocabulary inside.base inside.resources.items inside.iris labels
    inside.names inside.concepts) (sym c.remove_all.ensures)
    (kept_without_labels inside.base inside.resources.items inside.iris inside.labels gone inside.names inside.concepts
    c.self.invariant
    (subst (λ (v : Vocabulary). AreLegalLabels v.resources (set.difference v.labels gone)) (sym c.self.view_is)
    c.requires))

pub returns : goal.returns
returns c =
    let inside = c.self.inside in
    let gone = labels_of_owner c.args.owner c.args.labels.now in
    ap (vocabulary_from inside.base inside.resources.items inside.iris) c.remove_all.ensures
    ∙ ap (λ (v : Vocabulary). with_labels v (set.difference v.labels gone)) c.self.view_is
