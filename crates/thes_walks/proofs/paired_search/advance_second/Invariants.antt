use Rattle.std.proofs.Common.{◌≡◌, ◌+◌, ◌-◌, ◌^◌, ◌≤◌, ℕ, List}
use Rattle.thes_links.specs.declared.edit.LinkEdit.TheVariants.{NoEdit}
use Rattle.thes_walks.specs.SideSearch.{IsSideSearch, AreAmong}
use Rattle.thes_walks.proofs.paired_search.advance_second.Given as goal

abbrev pub invariant-reading : goal.invariant-reading
invariant-reading g l = record {
  net : g.L.Links.net l.links ≡ g.L.Links.net l.fn.links;
  allowance : l.allowance ≤ l.fn.allowance;
  count : g.L.Links.count l.links ≤ g.L.Links.count l.fn.links + (l.fn.allowance - l.allowance);
  continues : (kept : List ℕ) → AreAmong kept l.firsts → (start read : ℕ)
      → IsSideSearch NoEdit (g.L.Links.net l.fn.links).links l.relation kept start l.fn.second read
      → IsSideSearch NoEdit (g.L.Links.net l.fn.links).links l.relation kept start l.second
      (read + (l.fn.allowance - l.allowance));
}

abbrev pub decreases-reading : goal.decreases-reading
decreases-reading g l = 2 ^ 63 - l.second.next
