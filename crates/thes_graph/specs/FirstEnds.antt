-- Links listed by their first ends.
use Rattle.std.specs.Prelude.{◌≡◌, ◌⊎◌, ◌<◌, ℕ, List, Contains}
use Rattle.thes_base.specs.declared.data.Link.{Link}
use Rattle.thes_base.specs.Links.{Links, Holds}
use Rattle.thes_graph.specs.declared.sided_links.SidedLink.{SidedLink}

-- The list `new` adds links of the row to the list `old`, among them all whose first end is the node.
pub record AddsFirstEnds (node : ℕ) (row : List SidedLink) (old new : List Link) : Type 0 where
  pub sound : (l : Link) → Contains new l → Contains old l ⊎ ((s : SidedLink) × Contains row s × (s.link ≡ l))
  pub keeps : (l : Link) → Contains old l → Contains new l
  pub complete : (s : SidedLink) → Contains row s → s.link.a ≡ node → Contains new s.link

-- The list has links of the set, among them all whose first end is less than n.
pub record AreListedBelow (links : Links) (n : ℕ) (all : List Link) : Type 0 where
  pub sound : (l : Link) → Contains all l → Holds links l
  pub complete : (l : Link) → Holds links l → l.a < n → Contains all l
