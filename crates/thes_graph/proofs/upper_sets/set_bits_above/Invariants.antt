use Rattle.std.proofs.Common.{take}
use Rattle.thes_graph.proofs.UpperSetLemmas.{AreSetAbove}
use Rattle.thes_graph.proofs.upper_sets.set_bits_above.Given as goal

abbrev pub invariant-loop-high : goal.invariant-loop-high
invariant-loop-high l = AreSetAbove l.fn.words.items l.words.items l.row.node (take l.high-index l.row.above.items)
