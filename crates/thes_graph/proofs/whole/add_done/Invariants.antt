use Rattle.std.proofs.Common.{Contains, take}
use Rattle.thes_links.specs.Steps.{GrowsBy}
use Rattle.thes_graph.proofs.whole.add_done.Given as goal

abbrev pub invariant-loop-n : goal.invariant-loop-n
invariant-loop-n l = GrowsBy l.fn.done l.done (Contains (take l.n-index l.nodes))
