use Rattle.std.proofs.Common.{◌≡◌, ◌≤◌, ◌-◌, ◌^◌}
use Rattle.thes_links.proofs.WalkLemmas.{IsGatherState}
use Rattle.thes_links.proofs.walk.gather.Given as goal

abbrev pub invariant-loop-x : goal.invariant-loop-x
invariant-loop-x g l = record {
  net : g.L.Links.net l.links ≡ g.L.Links.net l.fn.links;
  small : l.i ≤ 2 ^ 63;
  walked : IsGatherState l.edit (g.L.Links.net l.fn.links).links l.fn.relation l.fn.start l.nodes l.found.items l.i
      (g.L.Links.count l.fn.links) (g.L.Links.count l.links);
}

abbrev pub decreases-loop-x : goal.decreases-loop-x
decreases-loop-x g l = 2 ^ 63 - l.i
