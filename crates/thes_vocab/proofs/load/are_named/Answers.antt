use Rattle.std.proofs.Common.{◌∙◌, ℕ, sym, subst, true≢false, arith}
use Rattle.thes_base.specs.Resources.{CanOwn}
use Rattle.thes_base.specs.Labels.{HasPreferred}
use Rattle.thes_base.proofs.NumberedLemmas.{numbered_bound}
use Rattle.thes_base.proofs.ResourceLemmas.{owner_exists}
use Rattle.thes_vocab.proofs.LoadingLemmas.{next_of}
use Rattle.thes_vocab.proofs.load.are_named.Goals as goal
use Rattle.thes_vocab.proofs.load.are_named.Goals.{then-can_own+then-has_preferred, else-can_own}

pub loop-i-preserved : goal.loop-i-preserved
loop-i-preserved c =
    let P = λ (n : ℕ). CanOwn c.args.resources.now n → HasPreferred c.args.labels.now n in
    next_of P c.loop-i.i c.loop-i.invariant
    (subst P c.new-n.ensures (elim c.if-can_own.branch [
      | then-can_own+then-has_preferred w ↦ λ can. w.has_preferred.ensures.0 w.if-has_preferred.true
      | else-can_own w ↦ λ can. absurd (true≢false (sym (c.can_own.ensures.1 can) ∙ w.if-can_own.false))
    ]))

pub returns : goal.returns
returns c = grind (arith, numbered_bound, owner_exists)
