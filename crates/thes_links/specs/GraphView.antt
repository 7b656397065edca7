-- A graph, and a reader of its links that counts its visits, as contracts see them.
use Rattle.std.specs.Prelude.{◌≡◌, ◌||◌, ◌==◌, ℕ, Bool, List}
use Rattle.std.specs.Ordering.{nat_cmp}
use Rattle.std.specs.FinSet.{FinSet, contains}
use Rattle.thes_base.specs.declared.data.Link.{Link}
use Rattle.thes_base.specs.declared.data.Resource.{Resource}
use Rattle.thes_base.specs.Resources.{is_outside}
use Rattle.thes_base.specs.Links.{Links}

-- The links held, and the resources marked as outside concepts.
pub record GraphView : Type 0 where
  pub links : Links
  pub outside : FinSet nat_cmp

-- A graph, and the number of visits to its links so far.
pub record CountedGraphView : Type 0 where
  pub net : GraphView
  pub visits : ℕ

-- Whether the resource is marked as an outside concept.
abbrev pub is_marked : GraphView → ℕ → Bool
is_marked net = contains net.outside

-- The graph marks exactly the outside concepts among the resources.
abbrev pub MarksOutside : List Resource → GraphView → Type 0
MarksOutside resources net = (n : ℕ) → is_marked net n ≡ is_outside resources n

-- Whether the link has an end at the node.
abbrev pub ends_at : ℕ → Link → Bool
ends_at n l = l.a == n || l.b == n
