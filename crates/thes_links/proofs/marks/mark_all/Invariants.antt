use Rattle.std.proofs.Common.{take}
use Rattle.thes_links.specs.NodeSet.{AreMarked}
use Rattle.thes_links.proofs.marks.mark_all.Given as goal

abbrev pub invariant-loop-n : goal.invariant-loop-n
invariant-loop-n l = AreMarked (take l.n-index l.nodes) l.marks.items
