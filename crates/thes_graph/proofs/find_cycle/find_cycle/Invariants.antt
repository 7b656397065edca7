use Rattle.std.proofs.Common.{◌≡◌, ℕ, Contains}
use Rattle.thes_base.specs.Links.{Holds}
use Rattle.thes_graph.specs.CycleSearch.{IsCycleSearch, search_measure}
use Rattle.thes_graph.proofs.find_cycle.find_cycle.Given as goal

abbrev pub invariant-loop-last : goal.invariant-loop-last
invariant-loop-last g l = record {
  net : g.L.Links.net l.links ≡ g.L.Links.net l.fn.links;
  climbs : IsCycleSearch (Holds (g.L.Links.net l.fn.links).links) l.search.nodes l.done l.search.stack.items;
  start : Contains l.search.nodes l.fn.start;
  extends : (n : ℕ) → Contains l.fn.done n → Contains l.done n;
}

abbrev pub decreases-loop-last : goal.decreases-loop-last
decreases-loop-last g l = search_measure l.search.nodes l.search.stack.items
