use Rattle.thes_graph.specs.FirstEnds.{AreListedBelow}
use Rattle.thes_graph.proofs.graph.Graph.all_links.Given as goal

abbrev pub invariant-loop-number : goal.invariant-loop-number
invariant-loop-number l = AreListedBelow l.self.links l.number l.all.items
