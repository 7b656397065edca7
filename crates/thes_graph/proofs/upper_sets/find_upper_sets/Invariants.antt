use Rattle.std.proofs.Common.{take}
use Rattle.thes_base.specs.Links.{Links}
use Rattle.thes_graph.specs.UpperSets.{AreUpwardRows}
use Rattle.thes_graph.proofs.UpperSetLemmas.{AreFoundBelow}
use Rattle.thes_graph.proofs.upper_sets.find_upper_sets.Given as goal

abbrev pub invariant-loop-row : goal.invariant-loop-row
invariant-loop-row l =
    (held : Links) → AreUpwardRows held l.rows → AreFoundBelow held (take l.row-index l.rows) l.block l.words.items
