-- The rules Cycle, S27 and S46 in all links.
use Rattle.std.specs.Prelude.{ℕ, List, Bool, Contains, MatchBool}
use Rattle.thes_base.specs.declared.data.Link.{Link}
use Rattle.thes_base.specs.Links.{IsBelow, IsRelated}
use Rattle.thes_links.specs.Rules.{ReachesUp, KeepsS46At, BreaksS46}
use Rattle.thes_graph.specs.CycleSearch.{IsUpwardOrder}

-- The list has both ends of each link held.
abbrev pub HasAllEnds : (Link → Type 0) → List ℕ → Type 0
HasAllEnds Held nodes = (l : Link) → Held l → Contains nodes l.a × Contains nodes l.b

-- The list has both ends of each link, each node after all nodes broader than it, and no cycle runs through any of
-- them.
pub record IsWholeOrder (Held : Link → Type 0) (nodes : List ℕ) : Type 0 where
  pub order : IsUpwardOrder Held nodes
  pub ends : HasAllEnds Held nodes

-- No concept related to x is x itself, or below x (SKOS S27).
abbrev pub KeepsS27Below : (Link → Type 0) → ℕ → Type 0
KeepsS27Below Held x = (y : ℕ) → IsRelated Held x y → ReachesUp Held y x → ⊥

-- Some concept is related to one above it, which breaks S27.
abbrev pub BreaksS27 : (Link → Type 0) → Type 0
BreaksS27 Held = (x : ℕ) × (y : ℕ) × IsRelated Held x y × IsBelow Held x y

-- None of the nodes is in a class of exact matches that breaks S46.
abbrev pub KeepS46 : (Link → Type 0) → List ℕ → Type 0
KeepS46 Held nodes = (n : ℕ) → Contains nodes n → KeepsS46At Held n

-- The verdict on the class of exact matches of n: S46 is broken, or n is done. Nodes that were done still are, and none
-- that is done is in a class that breaks S46.
pub record IsClassVerdict (Held : Link → Type 0) (n : ℕ) (done later : List ℕ) (found : Bool) : Type 0 where
  pub verdict : MatchBool found (BreaksS46 Held) (Contains later n)
  pub growth : (m : ℕ) → Contains done m → Contains later m
  pub classes : KeepS46 Held later
