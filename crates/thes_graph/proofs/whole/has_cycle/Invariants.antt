use Rattle.std.proofs.Common.{◌≡◌, Contains}
use Rattle.thes_base.specs.Links.{Holds}
use Rattle.thes_graph.specs.CycleSearch.{IsUpwardOrder}
use Rattle.thes_graph.proofs.WholeLemmas.{HoldsBelow}
use Rattle.thes_graph.proofs.whole.has_cycle.Given as goal

abbrev pub invariant-loop-link : goal.invariant-loop-link
invariant-loop-link g l = record {
  net : g.L.Links.net l.links ≡ g.L.Links.net l.fn.links;
  order : IsUpwardOrder (Holds (g.L.Links.net l.fn.links).links) l.order;
  ends : HoldsBelow (λ m. Contains l.order m.a × Contains l.order m.b) l.all l.link-index;
}
