-- The state of the depth-first search for a cycle of broader links.
use Rattle.std.specs.Prelude.{◌≡◌, ◌⊎◌, ◌+◌, ◌*◌, ◌-◌, ◌^◌, ◌<◌, ℕ, List, [], ◌∷◌, Contains, length, get_or, take}
use Rattle.std.specs.Prelude.{Bool, false, MatchBool}
use Rattle.thes_base.specs.declared.data.Link.{Link}
use Rattle.thes_base.specs.Links.{Chain, IsNarrower, IsBelow}
use Rattle.thes_graph.specs.declared.find_cycle.PathNode.{PathNode}
use Rattle.thes_links.specs.Rules.{NoCycleAt}

-- Some concept is above itself, which breaks Cycle.
abbrev pub HasCycle : (Link → Type 0) → Type 0
HasCycle Held = (x : ℕ) × IsBelow Held x x

-- The nodes are in upward order: each comes after all nodes broader than it, and no cycle runs through any of them.
pub record IsUpwardOrder (Held : Link → Type 0) (nodes : List ℕ) : Type 0 where
  pub above_first : (k : ℕ) → k < length nodes → (h : ℕ) → IsNarrower Held (get_or nodes k 0) h
      → Contains (take k nodes) h
  pub free : (n : ℕ) → Contains nodes n → NoCycleAt Held n

-- A chain of steps leads from each node on the stack to each node pushed after it.
abbrev pub IsUpwardPath : (ℕ → ℕ → Type 0) → List PathNode → Type 0
IsUpwardPath S [] = Unit {0}
IsUpwardPath S (s ∷ ss) = ((t : PathNode) → Contains ss t → Chain S s.node t.node) × IsUpwardPath S ss

-- The state of the search. The stack is a path upward, and each node met is on it or done. The list of each node on the
-- stack has only nodes broader than it, and all of these that aren't done. The nodes that are done are in upward order.
pub record IsCycleSearch (Held : Link → Type 0) (met done : List ℕ) (stack : List PathNode) : Type 0 where
  pub leads : IsUpwardPath (IsNarrower Held) stack
  pub met_nodes : (n : ℕ) → Contains met n → Contains done n ⊎ ((s : PathNode) × Contains stack s × (s.node ≡ n))
  pub open_nodes : (s : PathNode) → Contains stack s → (h : ℕ) → IsNarrower Held s.node h → Contains done h
      ⊎ Contains s.above.items h
  pub sound : (s : PathNode) → Contains stack s → (h : ℕ) → Contains s.above.items h → IsNarrower Held s.node h
  pub order : IsUpwardOrder Held done

-- The number of nodes on the stack, plus the number of broader nodes in their lists.
abbrev pub stack_measure : List PathNode → ℕ
stack_measure [] = 0
stack_measure (s ∷ ss) = 1 + length s.above.items + stack_measure ss

-- A measure that each step of the search decreases: 2^64 times the number of nodes that can still be met, out of 2^63,
-- plus the measure of the stack.
abbrev pub search_measure : (met : List ℕ) → List PathNode → ℕ
search_measure met stack = (2 ^ 63 - length met) * 2 ^ 64 + stack_measure stack

-- One step of the search: it found a cycle, or came to a later state with a smaller measure. Nodes that were met or
-- done still are.
pub record IsSearchStep (Held : Link → Type 0) (met done : List ℕ) (stack : List PathNode) (later_met later_done : List ℕ)
    (later_stack : List PathNode) (found : Bool) : Type 0 where
  pub verdict : MatchBool found (HasCycle Held) (IsCycleSearch Held later_met later_done later_stack)
  pub met_growth : (n : ℕ) → Contains met n → Contains later_met n
  pub done_growth : (n : ℕ) → Contains done n → Contains later_done n
  pub descent : found ≡ false → search_measure later_met later_stack < search_measure met stack

-- The whole search from a node: it found a cycle, or the node is done, and the nodes that are done are in upward order.
-- Nodes that were done still are.
pub record IsSearchFrom (Held : Link → Type 0) (start : ℕ) (done later : List ℕ) (found : Bool) : Type 0 where
  pub verdict : MatchBool found (HasCycle Held) (Contains later start)
  pub growth : (n : ℕ) → Contains done n → Contains later n
  pub order : found ≡ false → IsUpwardOrder Held later
