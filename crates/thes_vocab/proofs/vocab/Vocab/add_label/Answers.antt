use Rattle.std.proofs.Common.{◌∙◌, sym, ap, subst, arith}
use Rattle.std.specs.FinSet as set
use Rattle.thes_base.specs.Data.{LabelData}
use Rattle.thes_base.specs.Labels.{Labels}
use Rattle.thes_base.specs.Machine.{owned_label}
use Rattle.thes_vocab.specs.Consistency.{IsConsistentVocabulary}
use Rattle.thes_vocab.proofs.ConsistencyLemmas.{kept_more, seen_added}
use Rattle.thes_vocab.proofs.vocab.Vocab.add_label.Goals as goal

pub invariant_of-self-in_err-insert : goal.invariant_of-self-in_err-insert
invariant_of-self-in_err-insert c = grind (arith, kept_more)

pub invariant_of-self-2 : goal.invariant_of-self-2
invariant_of-self-2 c =
    let inside = c.self.inside in
    let labels = c.in_ok-insert.ensures.ok
    ∙ ap (λ (d : LabelData). set.insert inside.labels (owned_label c.args.owner d)) c.in_ok-copy.ensures in
    subst (λ (labels : Labels). IsConsistentVocabulary inside.base inside.resources.items inside.iris labels
    c.put_label.new.self inside.concepts) (sym labels)
    (seen_added inside.base inside.resources.items inside.iris inside.labels inside.names c.put_label.new.self
    inside.concepts c.self.invariant _ c.self.view_is c.put_label.ensures.keeps c.args.owner
    c.concept_scheme-scheme.result _ c.as_slice.ensures.value c.concept_scheme-scheme.ensures c.args.label.now
    c.requires.owner.can c.requires.allowed c.in_ok-put_label.ensures.ok)
