use Rattle.std.proofs.Common.{◌≡◌}
use Rattle.thes_base.specs.Links.{Holds}
use Rattle.thes_graph.specs.Whole.{KeepS46}
use Rattle.thes_graph.proofs.WholeLemmas.{HoldsBelow, IsDone}
use Rattle.thes_graph.proofs.whole.breaks_s46.Given as goal

abbrev pub invariant-loop-link : goal.invariant-loop-link
invariant-loop-link g l = record {
  net : g.L.Links.net l.links ≡ g.L.Links.net l.fn.links;
  free : KeepS46 (Holds (g.L.Links.net l.fn.links).links) l.done;
  done : HoldsBelow (IsDone (Holds (g.L.Links.net l.fn.links).links) l.done) l.all l.link-index;
}
