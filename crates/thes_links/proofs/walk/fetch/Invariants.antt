use Rattle.std.proofs.Common.{◌≡◌, ◌+◌, ◌≤◌, length, take}
use Rattle.thes_links.proofs.walk.fetch.Given as goal

-- The row has the links read so far; each took at most one visit.
abbrev pub invariant-loop-i : goal.invariant-loop-i
invariant-loop-i g l = record {
  net : g.L.Links.net l.links ≡ g.L.Links.net l.fn.links;
  so_far : l.row.items ≡ take l.i (g.L.Links.links_of (g.L.Links.net l.fn.links) l.node);
  count : g.L.Links.count l.links ≤ g.L.Links.count l.fn.links + l.i;
  within : l.i ≡ length l.row.items;
}
