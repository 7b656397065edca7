use Rattle.std.proofs.Common.{◌≡◌, refl}
use Rattle.thes_graph.proofs.CycleSearchLemmas.{GrowsBy-keeps}
use Rattle.thes_graph.proofs.s27.meet_related.Goals as goal

pub returns-clause-extends : goal.returns-clause-extends
returns-clause-extends c n has =
    GrowsBy-keeps c.meet.new.self c.meet-2.new.self (λ m. c.args.link.now.b ≡ m) c.in_ok-meet-2.ensures.grows n
    (GrowsBy-keeps c.args.nodes.now c.meet.new.self (λ m. c.args.link.now.a ≡ m) c.in_ok-meet.ensures.grows n has)

pub returns-clause-ends : goal.returns-clause-ends
returns-clause-ends c _ = (
  GrowsBy-keeps c.meet.new.self c.meet-2.new.self (λ m. c.args.link.now.b ≡ m) c.in_ok-meet-2.ensures.grows
      c.args.link.now.a (c.in_ok-meet.ensures.grows.has_new c.args.link.now.a refl),
  c.in_ok-meet-2.ensures.grows.has_new c.args.link.now.b refl,
)
