use Rattle.std.proofs.Common.{◌≡◌, ◌+◌, sym, subst, ap, ◌∙◌}
use Rattle.std.specs.FinSet as set
use Rattle.thes_base.specs.Labels.{Labels}
use Rattle.thes_base.specs.Changes.{copied_labels}
use Rattle.thes_base.specs.Resources.{IsLiveConcept}
use Rattle.thes_vocab.specs.Vocabulary.{Vocabulary, vocabulary_from, with_labels}
use Rattle.thes_vocab.specs.CopiedLabels.{AreMissingLabels}
use Rattle.thes_vocab.specs.LabelRows.{labels_of_owner}
use Rattle.thes_vocab.specs.Consistency.{IsConsistentVocabulary}
use Rattle.thes_vocab.proofs.ConsistencyLemmas.{kept_merged}
use Rattle.thes_vocab.proofs.MergedRowLemmas.{missing_set, missing_len}
use Rattle.thes_vocab.proofs.vocab.Vocab.take_labels.Goals as goal
use Rattle.thes_vocab.proofs.vocab.Vocab.take_labels.Goals.{In_ok-copies}

missing : (c : In_ok-copies) → AreMissingLabels c.self.inside.labels c.args.source c.args.target
    c.in_ok-copies.copies.items
missing c = subst (λ (v : Vocabulary). AreMissingLabels v.labels c.args.source c.args.target
    c.in_ok-copies.copies.items) (sym c.self.view_is) c.in_ok-copies.ensures

-- The copied labels are those that the machine's definition of a merge copies.
copied : (c : In_ok-copies) → labels_of_owner c.args.target c.in_ok-copies.copies.items
    ≡ copied_labels c.args.source c.args.target c.self.inside.labels
copied c = missing_set c.self.inside.labels c.args.source c.args.target c.self.invariant.named.disjoint
    c.in_ok-copies.copies.items (missing c)

pub insert_all-requires : goal.insert_all-requires
insert_all-requires c =
    ap (λ n. set.len c.self.inside.labels + n) (c.len-gained.ensures ∙ c.in_ok-copies.copies.ok.0)
    ∙ missing_len c.self.inside.labels c.args.source c.args.target c.self.invariant.named.disjoint
    c.in_ok-copies.copies.items (missing (goal.at.insert_all-requires c).In_ok-copies)

pub invariant_of-self-2 : goal.invariant_of-self-2
invariant_of-self-2 c =
    let inside = c.self.inside in
    let live = subst (λ (v : Vocabulary). IsLiveConcept v.resources c.args.target) (sym c.self.view_is) c.requires in
    subst (λ (labels : Labels). IsConsistentVocabulary inside.base inside.resources.items inside.iris labels
    inside.names inside.concepts) (sym (c.in_ok-insert_all.ensures.ok
    ∙ ap (set.union inside.labels) (copied (goal.at.invariant_of-self-2 c).In_ok-copies)))
    (kept_merged inside.base inside.resources.items inside.iris inside.labels inside.names inside.concepts
    c.args.source c.args.target c.self.invariant live)

pub returns-clause-gained : goal.returns-clause-gained
returns-clause-gained c =
    ap (λ (v : Vocabulary). set.len v.labels + c.len-gained.result) (sym c.self.view_is)
    ∙ ap (λ n. set.len c.self.inside.labels + n) (c.len-gained.ensures ∙ c.in_ok-copies.copies.ok.0)
    ∙ missing_len c.self.inside.labels c.args.source c.args.target c.self.invariant.named.disjoint
    c.in_ok-copies.copies.items (missing (goal.at.returns-clause-gained c).In_ok-copies)
    ∙ ap set.len (sym c.in_ok-insert_all.ensures.ok)

pub returns-clause-ok : goal.returns-clause-ok
returns-clause-ok c =
    let inside = c.self.inside in
    ap (vocabulary_from inside.base inside.resources.items inside.iris)
    (c.in_ok-insert_all.ensures.ok ∙ ap (set.union inside.labels) (copied (goal.at.returns-clause-ok c).In_ok-copies))
    ∙ ap (λ (v : Vocabulary). with_labels v (set.union v.labels (copied_labels c.args.source c.args.target v.labels)))
    c.self.view_is
