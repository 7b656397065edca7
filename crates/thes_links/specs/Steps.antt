-- The steps from node to node that links make in a relation, and the nodes reached by such steps.
use Rattle.std.specs.Prelude.{◌≡◌, ◌<◌, ◌==◌, ◌⊎◌, ◌++◌, ℕ, List, Contains, if◌then◌else◌, Option, None, Some, nat_eq}
use Rattle.std.specs.Prelude.{◌≢◌, get_or, length}
use Rattle.std.specs.List.{IsDistinct}
use Rattle.thes_base.specs.declared.data.Link.{Link}
use Rattle.thes_base.specs.declared.data.LinkKind.{LinkKind}
use Rattle.thes_base.specs.declared.data.Direction.{Direction}
use Rattle.thes_base.specs.declared.data.Direction.TheVariants.{Forward, Backward, Either, Never}
use Rattle.thes_base.specs.Links.{broader_direction, related_direction, exact_direction, disjoint_direction}
use Rattle.thes_base.specs.Links.{LinkLeads, Chain, IsJoined}
use Rattle.thes_links.specs.declared.relation.Relation.{Relation}
use Rattle.thes_links.specs.declared.relation.Relation.TheVariants.{Broader, Narrower, Related, Exact, Apart}

-- The opposite of a direction; Either and Never are their own opposites.
abbrev pub reverse_of : Direction → Direction
reverse_of Forward = Backward
reverse_of Backward = Forward
reverse_of Either = Either
reverse_of Never = Never

-- The direction in which links of this kind lead in the relation; in Broader, for example, the direction to the broader
-- concept.
abbrev pub direction_of : Relation → LinkKind → Direction
direction_of Broader kind = broader_direction kind
direction_of Narrower kind = reverse_of (broader_direction kind)
direction_of Related kind = related_direction kind
direction_of Exact kind = exact_direction kind
direction_of Apart kind = disjoint_direction kind

-- Links of this link's kind lead somewhere in the relation.
abbrev pub HasDirection : Relation → Link → Type 0
HasDirection relation l = direction_of relation l.kind ≢ Never

-- A held link leads from x to y in the relation.
abbrev pub Steps : Relation → (Link → Type 0) → (x y : ℕ) → Type 0
Steps relation Held = IsJoined Held (direction_of relation)

-- The end b of a link if x is its end a, or else None.
abbrev pub far_end : (a b x : ℕ) → Option ℕ
far_end a b x = if a == x then Some b else None

-- The node to which a link from a to b, followed in this direction, leads from x; None if it doesn't lead from x.
abbrev pub step_in : Direction → (a b x : ℕ) → Option ℕ
step_in Forward a b x = far_end a b x
step_in Backward a b x = far_end b a x
step_in Either a b x = if a == x then Some b else far_end b a x
step_in Never a b x = None

-- The node to which the link leads from x in the relation; None if it doesn't lead from x.
abbrev pub step_along : Relation → Link → ℕ → Option ℕ
step_along relation l x = step_in (direction_of relation l.kind) l.a l.b x

-- Node y is x, or is reached from x by one or more steps.
abbrev pub Reaches : (ℕ → ℕ → Type 0) → ℕ → ℕ → Type 0
Reaches joined x y = (x ≡ y) ⊎ Chain joined x y

-- The nodes are exactly those that can be reached from the start, each once.
pub record IsReachOf (joined : ℕ → ℕ → Type 0) (start : ℕ) (nodes : List ℕ) : Type 0 where
  pub sound : (y : ℕ) → Contains nodes y → Reaches joined start y
  pub complete : (y : ℕ) → Reaches joined start y → Contains nodes y
  pub distinct : IsDistinct nat_eq nodes

-- The state of a search: all nodes can be reached from the start, and all that can be reached from the first i of them
-- in one step are among them.
pub record IsSearchedUpTo (joined : ℕ → ℕ → Type 0) (start : ℕ) (nodes : List ℕ) (i : ℕ) : Type 0 where
  pub starts : Contains nodes start
  pub sound : (y : ℕ) → Contains nodes y → Reaches joined start y
  pub closed : (k : ℕ) → k < i → k < length nodes → (y : ℕ) → joined (get_or nodes k 0) y → Contains nodes y
  pub distinct : IsDistinct nat_eq nodes

-- The new list begins with the old one.
abbrev pub Extends : List ℕ → List ℕ → Type 0
Extends old new = (more : List ℕ) × (new ≡ old ++ more)

-- The new list is the old one, followed by exactly the nodes that satisfy `New` and weren't there, each once.
pub record GrowsBy (old new : List ℕ) (New : ℕ → Type 0) : Type 0 where
  pub extends : Extends old new
  pub has_new : (y : ℕ) → New y → Contains new y
  pub no_others : (y : ℕ) → Contains new y → Contains old y ⊎ New y
  pub distinct : IsDistinct nat_eq old → IsDistinct nat_eq new

-- The link joins one of xs to one of ys in the relation.
abbrev pub Ties : Relation → Link → (xs ys : List ℕ) → Type 0
Ties relation l xs ys = (x : ℕ) × (y : ℕ) × Contains xs x × Contains ys y × LinkLeads (direction_of relation l.kind)
    l.a l.b x y
