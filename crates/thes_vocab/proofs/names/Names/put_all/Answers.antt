use Rattle.std.proofs.Common.{◌≡◌, ◌∙◌, ℕ, List, ap, subst, take}
use Rattle.std.specs.Prelude.{Option}
use Rattle.std.proofs.lemmas.List.{take_all}
use Rattle.thes_base.specs.Data.{LabelData}
use Rattle.thes_vocab.specs.NameIndex.{HasLabelEntry}
use Rattle.thes_vocab.specs.OwnLabels.{has_own}
use Rattle.thes_vocab.specs.Vocabulary.{concept_scheme}
use Rattle.thes_vocab.proofs.DeathUndoLemmas.{entries_with_next}
use Rattle.thes_vocab.proofs.names.Names.put_all.Goals as goal

pub loop-label-preserved : goal.loop-label-preserved
loop-label-preserved c = record {
  keeps = λ s n t x has. c.put_label.ensures.keeps s n t x (c.loop-label.invariant.keeps s n t x has);
  put = entries_with_next c.loop-label.self c.put_label.new.self (concept_scheme c.args.resource.now) c.args.n
      c.args.own.now c.loop-label.label-index c.label-item.result c.loop-label-test.true c.label-item.is
      c.put_label.ensures.keeps c.loop-label.invariant.put
      (subst (λ (o : Option ℕ). HasLabelEntry c.put_label.new.self o c.label-item.result c.args.n)
      c.scheme_if_concept.ensures.value c.in_ok-put_label.ensures.ok);
}

pub returns-clause-ok : goal.returns-clause-ok
returns-clause-ok c = λ l has.
    let all : take c.loop-label.label-index c.args.own.now ≡ c.args.own.now = take_all c.loop-label.label-index
    c.args.own.now c.loop-label-test.false in
    c.loop-label.invariant.put l (ap (λ (xs : List LabelData). has_own xs l) all ∙ has)
