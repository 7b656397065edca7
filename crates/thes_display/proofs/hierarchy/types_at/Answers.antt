use Rattle.std.proofs.Common.{sym, subst}
use Rattle.thes_display.specs.Hierarchical.{AreTypes}
use Rattle.thes_display.proofs.SideLemmas.{untyped_at}
use Rattle.thes_display.proofs.hierarchy.types_at.Goals as goal

pub returns-then-not-is_typed : goal.returns-then-not-is_typed
returns-then-not-is_typed c =
    subst (λ types. AreTypes c.args.core.now.links c.args.terms.now types c.args.child c.args.rank)
    (sym c.untyped.ensures)
    (untyped_at c.args.core.now.links c.args.terms.now c.args.child c.args.rank c.requires.within.0 c.requires.within.1
    (c.requires.typed c.if-not-is_typed.true))
