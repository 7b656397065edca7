-- The side of a node on which a link lies, and the order of a node's links by side.
use Rattle.std.specs.Prelude.{◌==◌, ℕ, Bool, List, Some, slice_get, if◌then◌else◌, ◌≡◌, ◌<◌, ◌≤◌, length}
use Rattle.thes_base.specs.declared.data.Link.{Link}
use Rattle.thes_base.specs.declared.data.Direction.{Direction}
use Rattle.thes_base.specs.declared.data.Direction.TheVariants.{Forward, Backward, Either}
use Rattle.thes_base.specs.Links.{broader_direction, related_direction, exact_direction}
use Rattle.thes_links.specs.declared.relation.Relation.{Relation}
use Rattle.thes_links.specs.declared.relation.Relation.TheVariants as relation
use Rattle.thes_links.specs.declared.side.Side.{Side}
use Rattle.thes_links.specs.declared.side.Side.TheVariants.{Up, Sideways, Alike, Down, Other}
use Rattle.thes_links.specs.declared.side.Part.{Part}

-- The rank of the side in the order of a node's links, from 1 to 5.
abbrev pub side_no : Side → ℕ
side_no Up = 1
side_no Sideways = 2
side_no Alike = 3
side_no Down = 4
side_no Other = 5

-- The side `both` if the direction is Either, or else the side `rest`.
abbrev pub if_either : Direction → Side → Side → Side
if_either Either both rest = both
if_either _ both rest = rest

-- The side of an end on which a link lies. The arguments are the direction in which the link leads to a broader
-- concept, whether the end is the link's first one, and the directions to a related concept and to an exact match.
abbrev pub side_by_directions : Direction → (first : Bool) → (related exact : Direction) → Side
side_by_directions Forward first related exact = if first then Up else Down
side_by_directions Backward first related exact = if first then Down else Up
side_by_directions _ first related exact = if_either related Sideways (if_either exact Alike Other)

-- The side of n on which the link lies, where n is one of its ends.
abbrev pub side_at : ℕ → Link → Side
side_at n l = side_by_directions (broader_direction l.kind) (l.a == n) (related_direction l.kind)
    (exact_direction l.kind)

-- The range of the row has exactly the links on this side of n.
pub record IsPart (row : List Link) (n : ℕ) (side : Side) (part : Part) : Type 0 where
  pub in_range : part.to ≤ length row
  pub on_side : (k : ℕ) (l : Link) → slice_get row k ≡ Some l → part.from ≤ k → k < part.to → side_at n l ≡ side
  pub has : (k : ℕ) (l : Link) → slice_get row k ≡ Some l → side_at n l ≡ side → (part.from ≤ k) × (k < part.to)

-- At each node, the links of the relation all lie on one side; this is so for all relations but `Apart`.
abbrev pub IsOneSided : Relation → Type 0
IsOneSided relation.Apart = ⊥
IsOneSided _ = Unit {0}

-- The side of a node on which the links of the relation lie; arbitrary for `Apart`, whose links lie on several sides.
abbrev pub side_in : Relation → Side
side_in relation.Broader = Up
side_in relation.Narrower = Down
side_in relation.Related = Sideways
side_in relation.Exact = Alike
side_in relation.Apart = Other
