use Rattle.std.proofs.Common.{◌≡◌, ℕ, sym, subst, length, arith}
use Rattle.thes_export.specs.Topics.{AreParts}
use Rattle.thes_export.proofs.GatherLemmas.{parts_first, parts_next}
use Rattle.thes_export.proofs.gather.all_parts.Goals as goal

pub loop-i-init : goal.loop-i-init
loop-i-init c = subst (AreParts c.args.core.now 0) (sym c.new-parts.ensures.items) (parts_first c.args.core.now)

pub loop-i-preserved : goal.loop-i-preserved
loop-i-preserved c = grind (arith, parts_next)

pub returns : goal.returns
returns c =
    let all : c.loop-i.i ≡ length c.args.core.now.resources = omega arith in
    subst (λ (m : ℕ). AreParts c.args.core.now m c.loop-i.parts.items) all c.loop-i.invariant
