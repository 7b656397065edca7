use Rattle.std.proofs.Common.{◌≡◌, ◌+◌, ◌*◌, ◌-◌, ◌^◌, ◌<◌, ℕ, length, min}
use Rattle.thes_walks.specs.SideSearch.{AreAlternating}
use Rattle.thes_walks.proofs.upward_link.search_in_turns.Given as goal

abbrev pub invariant-turns : goal.invariant-turns
invariant-turns g l = record {
  limit : l.limit < 2 ^ 64;
  net : g.L.Links.net l.links ≡ g.L.Links.net l.fn.links;
  continues : (low high from : ℕ) → AreAlternating l.edit (g.L.Links.net l.fn.links).links low high l.fn.up l.fn.down
      from (g.L.Links.count l.fn.links)
      → AreAlternating l.edit (g.L.Links.net l.fn.links).links low high l.up l.down from (g.L.Links.count l.links);
}

-- The limit rises to 2 ^ 64 - 1, which is no limit, and then the search up ends in its turn.
abbrev pub decreases-turns : goal.decreases-turns
decreases-turns g l = 2 * (2 ^ 64 - l.limit) + min 1 (length l.up.nodes - l.up.next)
