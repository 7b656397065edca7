-- Searches that read the links on one side of each node, and the results of two such searches.
use Rattle.std.specs.Prelude.{◌≡◌, ◌+◌, ◌<◌, ◌≤◌, ◌*◌, ◌==◌, ◌⊎◌, ◌&&◌, ℕ, Bool, List, Contains, MatchBool, Option}
use Rattle.std.specs.Prelude.{[], ◌∷◌, None, Some, option_and_then, get_or, slice_get, take, sum_by, length, if◌then◌else◌}
use Rattle.thes_base.specs.declared.data.Link.{Link}
use Rattle.thes_base.specs.declared.fault.Refusal.{Refusal}
use Rattle.thes_base.specs.declared.fault.Refusal.TheVariants as no
use Rattle.thes_base.specs.Links.{Links, Holds, Chain, IsBelow, IsRelated, HasEnd, redirect}
use Rattle.thes_links.specs.declared.relation.Relation.{Relation}
use Rattle.thes_links.specs.declared.relation.Relation.TheVariants as along
use Rattle.thes_links.specs.declared.side.Side.{Side}
use Rattle.thes_links.specs.declared.edit.LinkEdit.{LinkEdit}
use Rattle.thes_links.specs.declared.edit.LinkEdit.TheVariants.{NoEdit, WithLink, AfterMerge}
use Rattle.thes_links.specs.Rules.{ReachesUp}
use Rattle.thes_links.specs.GraphView.{ends_at}
use Rattle.thes_links.specs.declared.side.Part.{Part}
use Rattle.thes_links.specs.Reading.{HaveTwoEnds, IsRow}
use Rattle.thes_links.specs.Side.{side_no, side_at, side_in, IsOneSided, IsPart}
use Rattle.thes_links.specs.LinkEdit.{HeldAfter, link_after_merge, node_after, CoversAt, IsValidEdit}
use Rattle.thes_links.specs.Steps.{Steps, step_along, Reaches, IsSearchedUpTo, GrowsBy}
use Rattle.thes_walks.specs.declared.side_search.SideSearch.{SideSearch}

-- The held link after the edit, or None if a merge drops it.
abbrev pub link_after : LinkEdit → Link → Option Link
link_after NoEdit l = Some l
link_after (WithLink new) l = Some l
link_after (AfterMerge source target) l = link_after_merge source target l

-- The node to which the held link leads from x in the relation after the edit.
abbrev pub step_after_edit : LinkEdit → Relation → (x : ℕ) → Link → Option ℕ
step_after_edit edit relation x l = option_and_then (λ m. step_along relation m x) (link_after edit l)

-- The end of the link that isn't n, if n is one of its ends.
abbrev pub other_end : ℕ → Link → ℕ
other_end n l = if l.a == n then l.b else l.a

-- The node to which a held link at `at` leads from x after the edit, where x replaces `at`: the other end, or the node
-- that replaces it; None if that is also x.
abbrev pub far_node_after : LinkEdit → (at x : ℕ) → Link → Option ℕ
far_node_after NoEdit at x l = Some (other_end at l)
far_node_after (WithLink new) at x l = Some (other_end at l)
far_node_after (AfterMerge source target) at x l =
    if redirect source target (other_end at l) == x then None else Some (redirect source target (other_end at l))

-- The function gives y for a link of the row at an index at least `from` and less than `to`.
abbrev pub LeadsWithin : (Link → Option ℕ) → (row : List Link) → (from to y : ℕ) → Type 0
LeadsWithin f row from to y =
    (k : ℕ) × (l : Link) × (from ≤ k) × (k < to) × (slice_get row k ≡ Some l) × (f l ≡ Some y)

-- A held link on the relation's side of the node `at` leads from x to y after the edit.
abbrev pub LeadsFrom : LinkEdit → Links → Relation → (at x y : ℕ) → Type 0
LeadsFrom edit held relation at x y =
    (l : Link) × Holds held l × HasEnd at l × (side_at at l ≡ side_in relation)
    × (step_after_edit edit relation x l ≡ Some y)

-- The result of a step: if `found`, some goal satisfies `New`; otherwise none does, and the nodes have grown by exactly
-- the nodes that satisfy it.
abbrev pub IsSearchResult : (found : Bool) → (old new goals : List ℕ) → (New : ℕ → Type 0) → Type 0
IsSearchResult found old new goals New =
    MatchBool found ((y : ℕ) × Contains goals y × New y)
    (GrowsBy old new New × ((y : ℕ) → Contains goals y → New y → ⊥))

-- The number 1 if the link lies on this side of the node, or else 0.
abbrev pub one_on_side : (at : ℕ) → Side → Link → ℕ
one_on_side at side l = if ends_at at l && (side_no (side_at at l) == side_no side) then 1 else 0

-- The list has each held link on this side of the node.
abbrev pub CoversSide : Links → (at : ℕ) → Side → List Link → Type 0
CoversSide held at side ns = (l : Link) → Holds held l → HasEnd at l → side_at at l ≡ side → Contains ns l

-- The number of visits to the link when the links on this side of node n are read after the edit.
abbrev pub link_visits : LinkEdit → (n : ℕ) → Side → Link → ℕ
link_visits NoEdit n side l = one_on_side n side l
link_visits (WithLink new) n side l = one_on_side n side l
link_visits (AfterMerge source target) n side l =
    if n == source then 0 else if n == target then one_on_side target side l + one_on_side source side l else
    one_on_side n side l

-- The number of visits to the links `ns` when the links on this side of each of the nodes are read after the edit.
abbrev pub read_cost : LinkEdit → Side → (nodes : List ℕ) → List Link → ℕ
read_cost edit side nodes ns = sum_by (λ n. sum_by (link_visits edit n side) ns) nodes

-- The relation is broader or narrower.
abbrev pub IsHierarchy : Relation → Type 0
IsHierarchy along.Broader = Unit {0}
IsHierarchy along.Narrower = Unit {0}
IsHierarchy _ = ⊥

-- The row has exactly the links held at the node, and its range exactly those on this side. Each link held has two
-- different ends.
pub record IsPartAt (held : Links) (row : List Link) (at : ℕ) (side : Side) (part : Part) : Type 0 where
  pub two_ends : HaveTwoEnds (Holds held)
  pub is_row : IsRow held at row
  pub on_side : IsPart row at side part

-- The links of the relation lie on one side of each node, the range of the row has those at `at`, and x replaces `at`
-- in the edit.
pub record CanFollowAt (edit : LinkEdit) (held : Links) (row : List Link) (relation : Relation) (at x : ℕ)
    (part : Part) : Type 0 where
  pub one_side : IsOneSided relation
  pub replaces : node_after edit at ≡ x
  pub ready : IsPartAt held row at (side_in relation) part

-- The edit is valid, the links of the relation lie on one side of each node, and the range has those at the node.
pub record CanFollow (edit : LinkEdit) (held : Links) (rows : ℕ → List Link) (relation : Relation) (at : ℕ)
    (part : Part) : Type 0 where
  pub fit : IsValidEdit edit
  pub one_side : IsOneSided relation
  pub ready : IsPartAt held (rows at) at (side_in relation) part

-- The edit is valid, and the relation is broader or narrower.
pub record IsHierarchySearch (edit : LinkEdit) (relation : Relation) : Type 0 where
  pub fit : IsValidEdit edit
  pub hierarchy : IsHierarchy relation

-- The next node of the search, 0 past the end.
abbrev pub next_node : SideSearch → ℕ
next_node side_search = get_or side_search.nodes side_search.next 0

-- The range has the next node's links on the side of the relation, if there is a next node.
abbrev pub HasNextPart : (held : Links) → (rows : ℕ → List Link) → Relation → SideSearch → Part → Type 0
HasNextPart held rows relation side_search part =
    side_search.next < length side_search.nodes
    → IsPartAt held (rows (next_node side_search)) (next_node side_search) (side_in relation) part

-- The edit is valid, the relation is broader or narrower, and there is a next node, whose links on the side of the
-- relation are in the range.
pub record CanAdvance (edit : LinkEdit) (held : Links) (rows : ℕ → List Link) (relation : Relation)
    (side_search : SideSearch) (part : Part) : Type 0 where
  pub fit : IsValidEdit edit
  pub hierarchy : IsHierarchy relation
  pub more : side_search.next < length side_search.nodes
  pub ready : HasNextPart held rows relation side_search part

-- The state of a search after `read` visits, at most the cost of reading its first `next` nodes: these were read, and
-- none of them leads to a goal.
pub record IsSideSearch (edit : LinkEdit) (held : Links) (kind : Relation) (goals : List ℕ) (start : ℕ)
    (side_search : SideSearch) (read : ℕ) : Type 0 where
  pub closed : IsSearchedUpTo (Steps kind (HeldAfter edit held)) start side_search.nodes side_search.next
  pub no_goal : (k : ℕ) → k < side_search.next → (y : ℕ) → Contains goals y → Steps kind (HeldAfter edit held)
      (get_or side_search.nodes k 0) y → ⊥
  pub cost : (ns : List Link) → ((k : ℕ) → k < side_search.next → CoversAt edit held (get_or side_search.nodes k 0) ns)
      → read ≤ read_cost edit (side_in kind) (take side_search.next side_search.nodes) ns
  pub in_range : side_search.next ≤ length side_search.nodes

-- A chain leads from the start to a goal, by the links after the edit.
abbrev pub LeadsTo : LinkEdit → Links → Relation → (goals : List ℕ) → (start : ℕ) → Type 0
LeadsTo edit held relation goals start = (y : ℕ) × Contains goals y × Chain (Steps relation (HeldAfter edit held))
    start y

-- At most one visit is made for each link at a node that the start reaches in the relation.
abbrev pub IsReadBounded : LinkEdit → Links → Relation → (start read : ℕ) → Type 0
IsReadBounded edit held relation start read =
    (ns : List Link) → ((n : ℕ) → Reaches (Steps relation (HeldAfter edit held)) start n → CoversAt edit held n ns)
    → read ≤ length ns

-- The result of a step: a goal is found within the bound on visits, or IsSideSearch still describes the state of the
-- search, with the goals `kept`.
abbrev pub IsAdvanceResult : LinkEdit → Links → Relation → (kept goals : List ℕ) → (start : ℕ) → SideSearch
    → (read : ℕ) → (found : Bool) → Type 0
IsAdvanceResult edit held relation kept goals start side_search read found =
    MatchBool found (LeadsTo edit held relation goals start × IsReadBounded edit held relation start read)
    (IsSideSearch edit held relation kept start side_search read)

-- Each node of the first list is in the second.
abbrev pub AreAmong : (nodes all : List ℕ) → Type 0
AreAmong nodes all = (y : ℕ) → Contains nodes y → Contains all y

-- The result of reading more nodes in `visits` visits: from each state that IsSideSearch describes with some of the
-- goals, the search comes to another such state with the same goals, or has found a goal.
abbrev pub ContinuesSearch : LinkEdit → Links → Relation → (goals : List ℕ) → (old new : SideSearch) → (visits : ℕ)
    → (found : Bool) → Type 0
ContinuesSearch edit held relation goals old new visits found =
    (kept : List ℕ) → AreAmong kept goals → (start read : ℕ) → IsSideSearch edit held relation kept start old read
    → IsAdvanceResult edit held relation kept goals start new (read + visits) found

-- The search has read the links of one more node, in `visits` visits.
pub record AdvancesByNode (edit : LinkEdit) (held : Links) (relation : Relation) (goals : List ℕ)
    (old new : SideSearch) (visits : ℕ) (found : Bool) : Type 0 where
  pub next : new.next ≡ old.next + 1
  pub continues : ContinuesSearch edit held relation goals old new visits found

-- The rule that a link from `low` up to `high` would break: Cycle if a chain leads from `high` up to `low`, or else S27
-- if a concept at or below `low` is related to one at or above `high`, or else none.
abbrev pub IsBrokenBetween : (Link → Type 0) → (low high : ℕ) → Option Refusal → Type 0
IsBrokenBetween Held low high None = (IsBelow Held high low → ⊥)
    × ((x y : ℕ) → ReachesUp Held x low → ReachesUp Held high y → IsRelated Held x y → ⊥)
IsBrokenBetween Held low high (Some no.Cycle) = IsBelow Held high low
IsBrokenBetween Held low high (Some no.S27) =
    (IsBelow Held high low → ⊥) × ((x : ℕ) × (y : ℕ) × ReachesUp Held x low × ReachesUp Held high y
    × IsRelated Held x y)
IsBrokenBetween Held low high (Some _) = ⊥

-- The list has each held link that after the edit has an end at a node at or below `low`, or at or above `high`.
abbrev pub CoversBetween : LinkEdit → Links → (low high : ℕ) → List Link → Type 0
CoversBetween edit held low high ns =
    (n : ℕ) → ReachesUp (HeldAfter edit held) n low ⊎ ReachesUp (HeldAfter edit held) high n → CoversAt edit held n ns

-- The state of two alternating searches, up from `high` and down from `low`, neither of which leads to the start of the
-- other so far; the count has grown from `from` to `count` by at most their visits.
abbrev pub AreAlternating : LinkEdit → Links → (low high : ℕ) → (up down : SideSearch) → (from count : ℕ) → Type 0
AreAlternating edit held low high up down from count =
    (a : ℕ) × (b : ℕ) × IsSideSearch edit held along.Broader (low ∷ []) high up a
    × IsSideSearch edit held along.Narrower (high ∷ []) low down b
    × (count ≤ from + a + b)

-- A chain leads from `high` up to `low`, and was found within the bound on visits.
abbrev pub HasFoundCycle : LinkEdit → Links → (low high : ℕ) → (from count : ℕ) → Type 0
HasFoundCycle edit held low high from count = IsBelow (HeldAfter edit held) high low
    × ((ns : List Link) → CoversBetween edit held low high ns → count ≤ from + 4 * length ns)

-- The result of turns of two searches, during which the count grows from `before` to `after`: from each state that
-- AreAlternating describes, the searches come to another such state, or have met.
abbrev pub ContinuesInTurn : LinkEdit → Links → (up down up_after down_after : SideSearch) → (before after : ℕ)
    → (found : Bool) → Type 0
ContinuesInTurn edit held up down up_after down_after before after found =
    (low high from : ℕ) → AreAlternating edit held low high up down from before
    → MatchBool found (HasFoundCycle edit held low high from after)
    (AreAlternating edit held low high up_after down_after from after)

-- A related link joins one of xs to one of ys after the edit.
abbrev pub AreTied : LinkEdit → Links → (xs ys : List ℕ) → Type 0
AreTied edit held xs ys = (x : ℕ) × (y : ℕ) × Contains xs x × Contains ys y
    × Steps along.Related (HeldAfter edit held) x y

-- No related link joins one of xs to a node that the start reaches in the relation.
abbrev pub AreUnrelated : LinkEdit → Links → Relation → (xs : List ℕ) → (start : ℕ) → Type 0
AreUnrelated edit held relation xs start =
    (x y : ℕ) → Contains xs x → Reaches (Steps relation (HeldAfter edit held)) start y
    → Steps along.Related (HeldAfter edit held) x y → ⊥

-- The result of the second search, after the first has met the nodes xs: Cycle only if it meets one of them, S27 only
-- if a related link leads from xs to a node that it reaches, and none only if no related link does.
abbrev pub IsSecondResult : LinkEdit → Links → Relation → (xs : List ℕ) → (start : ℕ) → Option Refusal → Type 0
IsSecondResult edit held relation xs start None = AreUnrelated edit held relation xs start
IsSecondResult edit held relation xs start (Some no.Cycle) = LeadsTo edit held relation xs start
IsSecondResult edit held relation xs start (Some no.S27) =
    (x : ℕ) × (y : ℕ) × Contains xs x × Reaches (Steps relation (HeldAfter edit held)) start y
    × Steps along.Related (HeldAfter edit held) x y
IsSecondResult edit held relation xs start (Some _) = ⊥
