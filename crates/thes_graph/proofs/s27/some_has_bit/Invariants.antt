use Rattle.std.proofs.Common.{ℕ, Contains, take}
use Rattle.thes_links.specs.Words.{HasBit}
use Rattle.thes_graph.proofs.s27.some_has_bit.Given as goal

abbrev pub invariant-loop-n : goal.invariant-loop-n
invariant-loop-n l = (n : ℕ) → Contains (take l.n-index l.nodes) n → HasBit l.words n l.j → ⊥
