use Rattle.std.proofs.Common.{◌≡◌, ◌+◌, ◌*◌, ◌-◌, ◌^◌, ◌<◌, ℕ, length, min}
use Rattle.thes_walks.specs.PairedSearch.{ArePairedSearches}
use Rattle.thes_walks.proofs.paired_search.run_paired_search.Given as goal

abbrev pub invariant-turns : goal.invariant-turns
invariant-turns g l = record {
  limit : l.limit < 2 ^ 64;
  net : g.L.Links.net l.links ≡ g.L.Links.net l.fn.links;
  continues : (from to before : ℕ)
      → ArePairedSearches (g.L.Links.net l.fn.links).links l.relation from to l.fn.paired.first l.fn.paired.second
      l.fn.paired.allowance before (g.L.Links.count l.fn.links)
      → ArePairedSearches (g.L.Links.net l.fn.links).links l.relation from to l.paired.first l.paired.second
      l.paired.allowance
      before (g.L.Links.count l.links);
}

-- The limit rises to 2 ^ 64 - 1, which is no limit, and then one of the searches ends in its turn.
abbrev pub decreases-turns : goal.decreases-turns
decreases-turns g l = 3 * (2 ^ 64 - l.limit) + min 1 (length l.paired.first.nodes - l.paired.first.next)
    + min 1 (length l.paired.second.nodes - l.paired.second.next)
