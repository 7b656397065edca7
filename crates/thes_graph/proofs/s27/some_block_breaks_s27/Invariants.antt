use Rattle.std.proofs.Common.{◌≡◌, ◌⊎◌, ℕ, Contains, length}
use Rattle.thes_base.specs.Links.{Holds}
use Rattle.thes_graph.specs.Whole.{KeepsS27Below}
use Rattle.thes_graph.proofs.s27.some_block_breaks_s27.Given as goal

abbrev pub invariant-passes : goal.invariant-passes
invariant-passes g l = record {
  net : g.L.Links.net l.links ≡ g.L.Links.net l.fn.links;
  free : (n : ℕ) → Contains l.nodes n → Contains l.rest n ⊎ KeepsS27Below (Holds (g.L.Links.net l.fn.links).links) n;
}

abbrev pub decreases-passes : goal.decreases-passes
decreases-passes g l = length l.rest
