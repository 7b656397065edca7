use Rattle.std.proofs.Common.{◌≡◌}
use Rattle.std.specs.FinSet.{len}
use Rattle.thes_base.specs.Links.{links_after_deprecation}
use Rattle.thes_graph.proofs.graph.Graph.drop_all.Given as goal

abbrev pub invariant-loop-link : goal.invariant-loop-link
invariant-loop-link l = record {
  left : links_after_deprecation l.n l.self.links ≡ links_after_deprecation l.n l.fn.self.links;
  outside : l.self.outside ≡ l.fn.self.outside;
}

abbrev pub decreases-loop-link : goal.decreases-loop-link
decreases-loop-link l = len l.self.links
