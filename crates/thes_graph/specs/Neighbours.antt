-- The neighbours of a concept that a view lists: concepts of its scheme, and collections.
use Rattle.std.specs.Prelude.{ℕ, Option}
use Rattle.thes_base.specs.declared.data.Link.{Link}
use Rattle.thes_base.specs.declared.data.LinkKind.{LinkKind}
use Rattle.thes_base.specs.declared.data.LinkForm.{LinkForm}
use Rattle.thes_base.specs.declared.data.LinkForm.TheVariants.{Within, Membership}
use Rattle.thes_base.specs.declared.data.Direction.{Direction}
use Rattle.thes_base.specs.declared.data.Direction.TheVariants.{Backward, Never}
use Rattle.thes_base.specs.Links.{Links, Holds, form_of, broader_direction, related_direction, IsJoined}
use Rattle.thes_graph.specs.declared.neighbours.NeighbourKind.{NeighbourKind}
use Rattle.thes_graph.specs.declared.neighbours.NeighbourKind.TheVariants as list
use Rattle.thes_links.specs.Steps.{reverse_of, step_in}

-- The direction in which links of this form and kind lead to a neighbour of this sort.
abbrev pub direction_by_form : LinkForm → NeighbourKind → LinkKind → Direction
direction_by_form Within list.Broader kind = broader_direction kind
direction_by_form Within list.Narrower kind = reverse_of (broader_direction kind)
direction_by_form Within list.Related kind = related_direction kind
direction_by_form Membership list.Collections kind = Backward
direction_by_form _ _ kind = Never

-- The direction in which links of this kind lead to a neighbour of this sort.
abbrev pub neighbour_direction : NeighbourKind → LinkKind → Direction
neighbour_direction neighbours kind = direction_by_form (form_of kind) neighbours kind

-- The second resource is a neighbour of the first, of this sort.
abbrev pub IsNeighbour : Links → NeighbourKind → ℕ → ℕ → Type 0
IsNeighbour links neighbours = IsJoined (Holds links) (neighbour_direction neighbours)

-- The neighbour of n, of this sort, to which the link leads; None if it leads to none.
abbrev pub neighbour_by_link : NeighbourKind → ℕ → Link → Option ℕ
neighbour_by_link neighbours n l = step_in (neighbour_direction neighbours l.kind) l.a l.b n
