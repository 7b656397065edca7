-- The rules Cycle, S27 and S46 at one node, and in all links.
use Rattle.std.specs.Prelude.{◌≡◌, ◌≢◌, ◌⊎◌, ℕ, List, Contains, Option, None, Some}
use Rattle.thes_base.specs.declared.data.Link.{Link}
use Rattle.thes_base.specs.declared.fault.Refusal.{Refusal}
use Rattle.thes_base.specs.declared.fault.Refusal.TheVariants as no
use Rattle.thes_base.specs.Links.{Links, Holds, exact_direction, IsJoined, IsNarrower, IsBelow, IsRelated, IsExactMatch}
use Rattle.thes_base.specs.Links.{IsDisjointMatch, NoCycle, S27, IsFirstBroken, HasEnd}
use Rattle.thes_links.specs.Reading.{HaveTwoEnds}
use Rattle.thes_links.specs.declared.relation.Relation.{Relation}
use Rattle.thes_links.specs.declared.edit.LinkEdit.{LinkEdit}
use Rattle.thes_links.specs.Steps.{Steps, Reaches, IsReachOf}
use Rattle.thes_links.specs.LinkEdit.{HeldAfter, CoversAt}

-- The links break none of the rules Cycle, S27 and S46.
abbrev pub BreakNone : (Link → Type 0) → Type 0
BreakNone Held = IsFirstBroken Held None

-- The links break no rule and each has two different ends, as has the new one.
pub record AreSoundWith (held : Links) (new : Link) : Type 0 where
  pub ends : new.a ≢ new.b
  pub two_ends : HaveTwoEnds (Holds held)
  pub unbroken : BreakNone (Holds held)

-- The held links without an end at p.
abbrev pub HeldAwayFrom : (Link → Type 0) → ℕ → Link → Type 0
HeldAwayFrom Held p l = Held l × (l.a ≢ p) × (l.b ≢ p)

-- Node y is x, or above x by one or more broader links.
abbrev pub ReachesUp : (Link → Type 0) → ℕ → ℕ → Type 0
ReachesUp Held = Reaches (IsNarrower Held)

-- Node y is x, or is joined to x by a chain of one or more exact matches.
abbrev pub InClassOf : (Link → Type 0) → ℕ → ℕ → Type 0
InClassOf Held = Reaches (IsJoined Held exact_direction)

-- No chain of broader links leads from p back to p.
abbrev pub NoCycleAt : (Link → Type 0) → ℕ → Type 0
NoCycleAt Held p = IsBelow Held p p → ⊥

-- No concept at or below p is related to one at or above p (SKOS S27).
abbrev pub KeepsS27At : (Link → Type 0) → ℕ → Type 0
KeepsS27At Held p = (x y : ℕ) → ReachesUp Held x p → ReachesUp Held p y → IsRelated Held x y → ⊥

-- No two members of p's class of exact matches are broader or related matches (SKOS S46).
abbrev pub KeepsS46At : (Link → Type 0) → ℕ → Type 0
KeepsS46At Held p = (x y : ℕ) → InClassOf Held p x → InClassOf Held p y → IsDisjointMatch Held x y → ⊥

-- Two members of p's class of exact matches are broader or related matches, which breaks S46.
abbrev pub BreaksS46At : (Link → Type 0) → ℕ → Type 0
BreaksS46At Held p = (x : ℕ) × (y : ℕ) × InClassOf Held p x × InClassOf Held p y × IsDisjointMatch Held x y

-- Two exact matches are also broader or related matches, which breaks S46.
abbrev pub BreaksS46 : (Link → Type 0) → Type 0
BreaksS46 Held = (x : ℕ) × (y : ℕ) × IsExactMatch Held x y × IsDisjointMatch Held x y

-- The answer is the first of Cycle, S27 and S46 that the links break at p, or none.
abbrev pub IsFirstBrokenAt : (Link → Type 0) → ℕ → Option Refusal → Type 0
IsFirstBrokenAt Held p None = NoCycleAt Held p × KeepsS27At Held p × KeepsS46At Held p
IsFirstBrokenAt Held p (Some no.Cycle) = IsBelow Held p p
IsFirstBrokenAt Held p (Some no.S27) = NoCycleAt Held p × ((x : ℕ) × (y : ℕ) × ReachesUp Held x p × ReachesUp Held p y
    × IsRelated Held x y)
IsFirstBrokenAt Held p (Some no.S46) =
    NoCycleAt Held p × KeepsS27At Held p × ((x : ℕ) × (y : ℕ) × InClassOf Held p x × InClassOf Held p y
    × IsDisjointMatch Held x y)
IsFirstBrokenAt Held p (Some _) = ⊥

-- The answer is the first of Cycle and S27 that the links break, or none.
abbrev pub IsFirstOfCycleAndS27 : (Link → Type 0) → Option Refusal → Type 0
IsFirstOfCycleAndS27 Held None = NoCycle Held × S27 Held
IsFirstOfCycleAndS27 Held (Some no.Cycle) = (x : ℕ) × IsBelow Held x x
IsFirstOfCycleAndS27 Held (Some no.S27) = NoCycle Held × ((x : ℕ) × (y : ℕ) × IsRelated Held x y × IsBelow Held x y)
IsFirstOfCycleAndS27 Held (Some _) = ⊥

-- The nodes are those that the start reaches in the relation by links that satisfy `Would`. The list has only such
-- links, and has each one with an end at one of the nodes.
pub record IsReachableSet (Would : Link → Type 0) (relation : Relation) (start : ℕ) (nodes : List ℕ)
    (links : List Link) : Type 0 where
  pub reach : IsReachOf (Steps relation Would) start nodes
  pub sound : (l : Link) → Contains links l → Would l
  pub complete : (l : Link) → Would l → (n : ℕ) → Contains nodes n → HasEnd n l → Contains links l

-- Node n is near the pivot p: it is p, above p, below p, or in the class of exact matches of p.
abbrev pub IsNearPivot : (Link → Type 0) → (p n : ℕ) → Type 0
IsNearPivot Would p n = ((p ≡ n) ⊎ IsBelow Would p n) ⊎ (IsBelow Would n p ⊎ IsExactMatch Would p n)

-- The list has each held link that has an end at a node near p after the edit.
abbrev pub CoversNear : LinkEdit → Links → ℕ → List Link → Type 0
CoversNear edit held p ns = (n : ℕ) → IsNearPivot (HeldAfter edit held) p n → CoversAt edit held n ns
