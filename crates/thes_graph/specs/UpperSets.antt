-- The nodes of a block that are at or above each node, as bits of the node's word.
use Rattle.std.specs.Prelude.{◌≡◌, ◌<◌, ◌≤◌, ◌↔◌, ℕ, List, Contains, Some, get_or, slice_get, take, length}
use Rattle.thes_base.specs.Links.{Links, Holds, IsNarrower}
use Rattle.thes_graph.specs.declared.find_cycle.PathNode.{PathNode}
use Rattle.thes_links.specs.Rules.{ReachesUp}
use Rattle.thes_links.specs.Words.{HasBit}

-- One of the rows is that of the node.
abbrev pub IsRowNode : List PathNode → ℕ → Type 0
IsRowNode rows n = (r : PathNode) × Contains rows r × (r.node ≡ n)

-- Each row lists exactly the broader nodes of its node, and comes after their rows. Each node with broader nodes has a
-- row.
pub record AreUpwardRows (held : Links) (rows : List PathNode) : Type 0 where
  pub broader : (r : PathNode) → Contains rows r → (h : ℕ) → Contains r.above.items h ↔ IsNarrower (Holds held) r.node h
  pub above_first : (k : ℕ) (d : PathNode) → k < length rows → (h : ℕ) → Contains (get_or rows k d).above.items h
      → IsRowNode (take k rows) h
  pub complete : (n h : ℕ) → IsNarrower (Holds held) n h → IsRowNode rows n

-- Bit j of each node's word states whether the j-th node of the block is at or above that node.
abbrev pub AreUpperSets : Links → (block words : List ℕ) → Type 0
AreUpperSets held block words =
    (n j x : ℕ) → slice_get block j ≡ Some x → HasBit words n j ↔ ReachesUp (Holds held) n x

-- The block has at most 64 nodes, and the words state which of them are at or above each node.
pub record AreBlockWords (held : Links) (block words : List ℕ) : Type 0 where
  pub size : length block ≤ 64
  pub sets : AreUpperSets held block words
