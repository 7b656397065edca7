use Rattle.std.proofs.lemmas.Grind.{common_steps}
use Rattle.std.proofs.Common.{◌≡◌, ◌∙◌, List, false, take, ap, IsTrue, arith}
use Rattle.std.proofs.lemmas.List.{take_more, take_all}
use Rattle.thes_base.specs.declared.data.LabelKind.TheVariants.{Pref}
use Rattle.thes_base.specs.Data.{LabelData}
use Rattle.thes_vocab.specs.OwnLabels.{own_label, has_own}
use Rattle.thes_vocab.proofs.LoadingLemmas.{own_push, own_at}
use Rattle.thes_vocab.proofs.load.has_preferred.Goals as goal

pub returns-then-eq : goal.returns-then-eq
returns-then-eq c = grind (arith, own_at)

pub loop-label-preserved : goal.loop-label-preserved
loop-label-preserved c = grind (arith, common_steps, own_push, take_more, c.label-item.is, c.loop-label.invariant)

pub returns : goal.returns
returns c = (
  λ (t : IsTrue false). let e : ⊥ = cc in absurd e,
  λ h.
      let own = c.of_owner-label-items.result.now in
      let all : take c.loop-label.label-index own ≡ own = take_all c.loop-label.label-index own
      c.loop-label-test.false in
      let e : ⊥ = c.loop-label.invariant h.0 h.1 (ap (λ (xs : List LabelData). has_own xs (own_label Pref h.0 h.1))
      all ∙ c.of_owner-label-items.ensures.each (own_label Pref h.0 h.1) ∙ h.2) in
      absurd e,
)
