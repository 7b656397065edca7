use Rattle.std.proofs.Common.{◌≡◌, ℕ, Contains, take}
use Rattle.thes_base.specs.Links.{Holds}
use Rattle.thes_graph.specs.Whole.{KeepsS27Below}
use Rattle.thes_graph.proofs.s27.some_breaks_s27.Given as goal

abbrev pub invariant-loop-j : goal.invariant-loop-j
invariant-loop-j g l = record {
  net : g.L.Links.net l.links ≡ g.L.Links.net l.fn.links;
  free : (n : ℕ) → Contains (take l.j l.block) n → KeepsS27Below (Holds (g.L.Links.net l.fn.links).links) n;
}
