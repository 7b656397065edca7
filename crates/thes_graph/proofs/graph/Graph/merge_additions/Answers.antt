use Rattle.std.proofs.Common.{◌∷◌, [], ◌++◌, Some, None, ap, sym, ◌∙◌, append-nil, arith}
use Rattle.std.proofs.lemmas.List.{take_all}
use Rattle.thes_graph.specs.declared.sided_links.SidedLink.{SidedLink}
use Rattle.thes_graph.specs.MergeAdditions.{added_link}
use Rattle.thes_graph.proofs.MergeAdditionLemmas.{filter_map_more, AreMergeAdditions-made}
use Rattle.thes_graph.proofs.graph.Graph.merge_additions.Goals as goal
use Rattle.thes_graph.proofs.graph.Graph.merge_additions.Goals.{in-Some+in_ok-push, in_default}

pub loop-sided_link-preserved : goal.loop-sided_link-preserved
loop-sided_link-preserved c =
    elim c.match-merge_addition.branch [
      | in-Some+in_ok-push w ↦
          rw w.merge_additions-is
          (w.in_ok-push.ensures.items ∙ ap (λ ls. ls ++ w.in-Some.new ∷ []) c.loop-sided_link.invariant
          ∙ sym (filter_map_more (λ (s : SidedLink). added_link c.args.self.now c.args.source c.args.target s.link)
          c.row_of_node-sided_link-items.result.now c.loop-sided_link.sided_link-index c.sided_link-item.result
          (Some w.in-Some.new) c.loop-sided_link-test.true c.sided_link-item.is w.in-Some.ensures))
      | in_default w ↦
          rw w.merge_additions-is
          (c.loop-sided_link.invariant ∙ sym (append-nil _)
          ∙ sym (filter_map_more (λ (s : SidedLink). added_link c.args.self.now c.args.source c.args.target s.link)
          c.row_of_node-sided_link-items.result.now c.loop-sided_link.sided_link-index c.sided_link-item.result
          None c.loop-sided_link-test.true c.sided_link-item.is w.in_default.ensures))
    ]

pub returns-clause-merge_additions : goal.returns-clause-merge_additions
returns-clause-merge_additions c =
    AreMergeAdditions-made c.args.self.now c.args.source c.args.target c.requires
    c.row_of_node-sided_link-items.ensures.two_ends c.row_of_node-sided_link-items.ensures.normal
    c.loop-sided_link.merge_additions.items (grind (arith, take_all))
