use Rattle.std.proofs.Common.{take}
use Rattle.std.specs.Ordering.{nat_cmp}
use Rattle.thes_graph.specs.Neighbours.{neighbour_by_link}
use Rattle.thes_graph.proofs.ReaderLemmas.{ListsSeen}
use Rattle.thes_graph.proofs.graph.Graph.neighbours.Given as goal

abbrev pub invariant-loop-sided_link : goal.invariant-loop-sided_link
invariant-loop-sided_link l = ListsSeen nat_cmp (neighbour_by_link l.neighbours l.n)
    (take l.sided_link-index l.sided_link-items) l.found.items
