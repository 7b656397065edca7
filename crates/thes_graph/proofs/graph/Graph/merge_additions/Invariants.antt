use Rattle.std.proofs.Common.{◌≡◌, take}
use Rattle.std.specs.List.{filter_map}
use Rattle.thes_graph.specs.MergeAdditions.{added_link}
use Rattle.thes_graph.proofs.graph.Graph.merge_additions.Given as goal

abbrev pub invariant-loop-sided_link : goal.invariant-loop-sided_link
invariant-loop-sided_link l = l.merge_additions.items
    ≡ filter_map (λ s. added_link l.fn.self l.source l.target s.link) (take l.sided_link-index l.sided_link-items)
