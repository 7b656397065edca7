use Rattle.std.proofs.Common.{take}
use Rattle.thes_base.specs.Views.{typed_cmp}
use Rattle.thes_graph.specs.Mappings.{typed_link_seen_from}
use Rattle.thes_graph.proofs.ReaderLemmas.{ListsSeen}
use Rattle.thes_graph.proofs.graph.Graph.typed_of.Given as goal

abbrev pub invariant-loop-sided_link : goal.invariant-loop-sided_link
invariant-loop-sided_link l = ListsSeen typed_cmp (typed_link_seen_from l.n)
    (take l.sided_link-index l.sided_link-items) l.found.items
