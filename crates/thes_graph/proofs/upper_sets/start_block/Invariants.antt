use Rattle.thes_graph.proofs.UpperSetLemmas.{AreStarted}
use Rattle.thes_graph.proofs.upper_sets.start_block.Given as goal

abbrev pub invariant-loop-j : goal.invariant-loop-j
invariant-loop-j l = AreStarted l.words.items l.block l.j
