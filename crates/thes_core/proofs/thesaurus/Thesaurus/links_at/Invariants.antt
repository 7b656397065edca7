use Rattle.std.proofs.Common.{◌≡◌, ◌-◌, length, take, vec_len}
use Rattle.thes_graph.specs.SidedLinks.{links_at}
use Rattle.thes_core.proofs.thesaurus.Thesaurus.links_at.Given as goal

-- The list has the links at the resource read so far, and the graph's links don't change.
abbrev pub invariant-loop-link : goal.invariant-loop-link
invariant-loop-link l = record {
  read : l.walk.net.links ≡ l.self.graph.links;
  found : l.found.items ≡ take (vec_len l.found) (links_at l.self.graph.links l.n);
}

abbrev pub decreases-loop-link : goal.decreases-loop-link
decreases-loop-link l = length (links_at l.self.graph.links l.n) - vec_len l.found
