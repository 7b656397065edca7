use Rattle.std.proofs.Common.{◌≡◌, ◌+◌, ◌-◌, ◌^◌, ℕ, List}
use Rattle.thes_walks.specs.SideSearch.{IsSideSearch, AreAmong}
use Rattle.thes_walks.proofs.side_search.SideSearch.advance_to.Given as goal

abbrev pub invariant-reading : goal.invariant-reading
invariant-reading g l = record {
  net : g.L.Links.net l.links ≡ g.L.Links.net l.fn.links;
  continues : (kept : List ℕ) → AreAmong kept l.goals → (start read : ℕ)
      → IsSideSearch l.along.edit (g.L.Links.net l.fn.links).links l.along.relation kept start l.fn.self read
      → IsSideSearch l.along.edit (g.L.Links.net l.fn.links).links l.along.relation kept start l.self
      (read + (g.L.Links.count l.links - g.L.Links.count l.fn.links));
}

abbrev pub decreases-reading : goal.decreases-reading
decreases-reading g l = 2 ^ 63 - l.self.next
