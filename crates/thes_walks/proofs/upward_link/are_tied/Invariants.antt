use Rattle.std.proofs.Common.{◌≡◌, ◌+◌, ◌≤◌, ◌<◌, ℕ, List, Contains, take, get_or}
use Rattle.thes_base.specs.declared.data.Link.{Link}
use Rattle.thes_links.specs.declared.relation.Relation.TheVariants.{Related}
use Rattle.thes_links.specs.declared.side.Side.TheVariants.{Sideways}
use Rattle.thes_links.specs.LinkEdit.{HeldAfter, CoversAt}
use Rattle.thes_links.specs.Steps.{Steps}
use Rattle.thes_walks.specs.SideSearch.{read_cost}
use Rattle.thes_walks.proofs.upward_link.are_tied.Given as goal

-- No related link joins one of the nodes read so far to `ys`, and the visits are at most the cost of reading these
-- nodes.
abbrev pub invariant-loop-x : goal.invariant-loop-x
invariant-loop-x g l = record {
  net : g.L.Links.net l.links ≡ g.L.Links.net l.fn.links;
  none : (k : ℕ) → k < l.x-index → (y : ℕ) → Contains l.ys y
      → Steps Related (HeldAfter l.edit (g.L.Links.net l.fn.links).links) (get_or l.xs k 0) y → ⊥;
  count : (ns : List Link) → ((n : ℕ) → Contains l.xs n → CoversAt l.edit (g.L.Links.net l.fn.links).links n ns)
      → g.L.Links.count l.links ≤ g.L.Links.count l.fn.links + read_cost l.edit Sideways (take l.x-index l.xs) ns;
}
