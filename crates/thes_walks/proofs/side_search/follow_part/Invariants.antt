use Rattle.std.proofs.Common.{◌≡◌, ◌+◌, ◌-◌, ◌≤◌, false}
use Rattle.thes_walks.specs.SideSearch.{far_node_after, LeadsWithin, IsSearchResult}
use Rattle.thes_walks.proofs.side_search.follow_part.Given as goal

-- The nodes have grown by those to which the links read so far lead; each link took at most one visit.
abbrev pub invariant-loop-i : goal.invariant-loop-i
invariant-loop-i g l = record {
  net : g.L.Links.net l.links ≡ g.L.Links.net l.fn.links;
  finds : IsSearchResult false l.fn.nodes l.nodes l.fn.goals
      (LeadsWithin (far_node_after l.edit l.fn.range.at l.fn.range.x)
      (g.L.Links.links_of (g.L.Links.net l.fn.links) l.fn.range.at) l.fn.range.part.from
      l.i);
  count : g.L.Links.count l.links ≤ g.L.Links.count l.fn.links + (l.i - l.fn.range.part.from);
  within : l.i - l.fn.range.part.from ≤ l.fn.range.part.to - l.fn.range.part.from;
}
