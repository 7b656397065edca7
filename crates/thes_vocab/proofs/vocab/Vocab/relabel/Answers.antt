use Rattle.std.proofs.Common.{rules, ◌≡◌, sym, ap, subst, List, ℕ, arith}
use Rattle.thes_base.specs.declared.data.LabelKind.TheVariants.{Pref}
use Rattle.thes_base.specs.Labels.{Labels, HasLabel}
use Rattle.thes_base.specs.Legal.{AreLegalLabels}
use Rattle.thes_vocab.specs.Vocabulary.{Vocabulary, with_labels}
use Rattle.thes_vocab.specs.Consistency.{IsConsistentVocabulary}
use Rattle.thes_vocab.proofs.LabelCheckLemmas.{relabelled_is}
use Rattle.thes_vocab.proofs.ConsistencyLemmas.{kept_more, seen_renamed, relabel_to_same_text}
use Rattle.thes_vocab.proofs.vocab.Vocab.relabel.Goals as goal

-- If a text is a copy of the owner's preferred label, the owner has it as its preferred label.
held : (labels : Labels) (owner : ℕ) (tag known old : List ℕ) → HasLabel labels owner Pref tag known → old ≡ known
    → HasLabel labels owner Pref tag old
held labels owner tag known old has same = subst (HasLabel labels owner Pref tag) (sym same) has

pub returns-then-eq-clause-ok : goal.returns-then-eq-clause-ok
returns-then-eq-clause-ok c =
    let v = c.args.self.now in
    let same : c.in_ok-old.old ≡ c.args.text.now = search rules in
    let legal = subst (λ (v : Vocabulary). AreLegalLabels v.resources v.labels) c.self.view_is c.self.invariant.named in
    let has = subst (λ (v : Vocabulary). HasLabel v.labels c.args.owner Pref c.args.tag.now c.in_ok-old.old)
    c.self.view_is (held c.self.inside.labels c.args.owner c.args.tag.now _ _ c.in-Some.ensures
    c.in_ok-old.ensures) in
    ap (with_labels v) (relabel_to_same_text v.resources v.labels c.args.owner c.args.tag.now c.args.text.now
    c.in_ok-old.old c.args.keep legal has same c.requires.allowed)

pub invariant_of-self-in_err-rename : goal.invariant_of-self-in_err-rename
invariant_of-self-in_err-rename c = grind (arith, kept_more)

pub invariant_of-self-2 : goal.invariant_of-self-2
invariant_of-self-2 c =
    let inside = c.self.inside in
    subst (λ (labels : Labels). IsConsistentVocabulary inside.base inside.resources.items inside.iris labels
    c.put.new.self inside.concepts) (sym c.in_ok-rename.ensures.ok)
    (seen_renamed inside.base inside.resources.items inside.iris inside.labels inside.names c.put.new.self
    inside.concepts c.self.invariant _ c.self.view_is c.put.ensures.keeps c.args.owner
    c.concept_scheme-scheme.result _ c.as_slice.ensures.value c.concept_scheme-scheme.ensures c.args.tag.now
    c.args.text.now c.in_ok-old.old c.args.keep
    (held inside.labels c.args.owner c.args.tag.now _ _ c.in-Some.ensures c.in_ok-old.ensures) c.requires.allowed
    c.in_ok-put.ensures.ok c.requires.owner.can)

pub returns-clause-ok : goal.returns-clause-ok
returns-clause-ok c = grind (arith, held, relabelled_is)
