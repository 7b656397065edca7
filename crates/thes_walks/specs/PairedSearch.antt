-- The state of two searches, one from each end of a link, of which the second reads no more links than the first.
use Rattle.std.specs.Prelude.{◌⊎◌, ◌+◌, ◌*◌, ◌≤◌, ℕ, List, [], ◌∷◌, length}
use Rattle.thes_base.specs.declared.data.Link.{Link}
use Rattle.thes_base.specs.Links.{Links, Holds, Chain}
use Rattle.thes_links.specs.declared.relation.Relation.{Relation}
use Rattle.thes_links.specs.declared.relation.Relation.TheVariants as along
use Rattle.thes_links.specs.declared.edit.LinkEdit.TheVariants.{NoEdit}
use Rattle.thes_walks.specs.declared.side_search.SideSearch.{SideSearch}
use Rattle.thes_links.specs.Steps.{Steps, Reaches}
use Rattle.thes_links.specs.Rules.{ReachesUp}
use Rattle.thes_links.specs.LinkEdit.{CoversAt}
use Rattle.thes_walks.specs.SideSearch.{IsSideSearch}

-- The converse relation: narrower for broader, broader for narrower, and any other itself.
abbrev pub converse : Relation → Relation
converse along.Broader = along.Narrower
converse along.Narrower = along.Broader
converse relation = relation

-- The count grows by at most two visits for each link at a node that the start reaches in the relation.
abbrev pub AreVisitsBounded : Links → Relation → (start before after : ℕ) → Type 0
AreVisitsBounded held relation start before after =
    (ns : List Link) → ((n : ℕ) → Reaches (Steps relation (Holds held)) start n → CoversAt NoEdit held n ns)
    → after ≤ before + 2 * length ns

-- The state of the two searches, from `from` in the relation and from `to` in its converse, neither of which leads to
-- the start of the other so far. The links that the second has read, and the `left` that it may still read, are
-- together at most as many as the first has read. The count has grown from `before` by at most the number of links that
-- the two have read.
abbrev pub ArePairedSearches : Links → Relation → (from to : ℕ) → (first second : SideSearch)
    → (left before count : ℕ) → Type 0
ArePairedSearches held relation from to first second left before count =
    (a : ℕ) × (b : ℕ) × IsSideSearch NoEdit held relation (to ∷ []) from first a
    × IsSideSearch NoEdit held (converse relation) (from ∷ []) to second b
    × (b + left ≤ a) × (count ≤ before + a + b)

-- A chain leads from one node to the other, and was found within the bound on visits.
abbrev pub HasFoundChain : Links → Relation → (from to before after : ℕ) → Type 0
HasFoundChain held relation from to before after =
    Chain (Steps relation (Holds held)) from to × AreVisitsBounded held relation from before after

-- One end of the link is the other, or above it.
abbrev pub HasEndAbove : (Link → Type 0) → Link → Type 0
HasEndAbove Held l = ReachesUp Held l.a l.b ⊎ ReachesUp Held l.b l.a

-- Neither end of the link is the other, or above it.
abbrev pub HasNoEndAbove : (Link → Type 0) → Link → Type 0
HasNoEndAbove Held l = (ReachesUp Held l.a l.b → ⊥) × (ReachesUp Held l.b l.a → ⊥)
