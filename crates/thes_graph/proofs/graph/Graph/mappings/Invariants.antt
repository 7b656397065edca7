use Rattle.std.proofs.Common.{take}
use Rattle.thes_base.specs.Views.{mapping_cmp}
use Rattle.thes_graph.specs.Mappings.{mapping_seen_from}
use Rattle.thes_graph.proofs.ReaderLemmas.{ListsSeen}
use Rattle.thes_graph.proofs.graph.Graph.mappings.Given as goal

abbrev pub invariant-loop-sided_link : goal.invariant-loop-sided_link
invariant-loop-sided_link l = ListsSeen mapping_cmp (mapping_seen_from l.n)
    (take l.sided_link-index l.sided_link-items) l.found.items
