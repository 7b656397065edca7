use Rattle.std.proofs.Common.{ap, ◌∙◌, arith}
use Rattle.std.specs.Ordering.{nat_cmp}
use Rattle.thes_links.specs.Steps.{step_in}
use Rattle.thes_graph.specs.Neighbours.{neighbour_by_link}
use Rattle.std.specs.Cmp.{nat_cmp_total}
use Rattle.std.specs.FinSet.{nat_cmp-IsAntisymmetric}
use Rattle.thes_base.proofs.ListMemberLemmas.{Contains-none}
use Rattle.thes_lists.proofs.ListingLemmas.{listing_none}
use Rattle.thes_graph.proofs.ReaderLemmas.{seen_more, seen_no_more, seen_listing, linked_from, linked_to}
use Rattle.thes_graph.proofs.graph.Graph.neighbours.Goals as goal
use Rattle.thes_graph.proofs.graph.Graph.neighbours.Goals.{in-Some+in_ok-insert_sorted, in_default}

pub loop-sided_link-init : goal.loop-sided_link-init
loop-sided_link-init c = rw c.new-found.ensures.items (listing_none nat_cmp _ (λ p has. Contains-none p has))

pub loop-sided_link-preserved : goal.loop-sided_link-preserved
loop-sided_link-preserved c =
    elim c.match-lead.branch [
      | in-Some+in_ok-insert_sorted w ↦
          rw (w.found-is, w.in_ok-insert_sorted.ensures)
          (seen_more nat_cmp (neighbour_by_link c.args.neighbours c.args.n) c.row_of_node-sided_link-items.result.now
          c.loop-sided_link.sided_link-index c.sided_link-item.result c.loop-sided_link-test.true
          c.sided_link-item.is c.loop-sided_link.found.items c.loop-sided_link.invariant nat_cmp_total
          nat_cmp-IsAntisymmetric w.in-Some.m
          (w.in-Some.ensures
          ∙ ap (λ direction. step_in direction c.sided_link-item.result.link.a c.sided_link-item.result.link.b
          c.args.n) c.direction_to-direction.ensures))
      | in_default w ↦
          rw w.found-is
          (seen_no_more nat_cmp (neighbour_by_link c.args.neighbours c.args.n)
          c.row_of_node-sided_link-items.result.now c.loop-sided_link.sided_link-index c.sided_link-item.result
          c.loop-sided_link-test.true c.sided_link-item.is c.loop-sided_link.found.items
          c.loop-sided_link.invariant
          (w.in_default.ensures
          ∙ ap (λ direction. step_in direction c.sided_link-item.result.link.a c.sided_link-item.result.link.b
          c.args.n) c.direction_to-direction.ensures))
    ]

pub returns : goal.returns
returns c =
    seen_listing nat_cmp (neighbour_by_link c.args.neighbours c.args.n) c.args.self.now.links c.args.n _
    (linked_from c.args.self.now.links c.args.neighbours c.args.n)
    (linked_to c.args.self.now.links c.args.neighbours c.args.n)
    c.row_of_node-sided_link-items.result.now c.loop-sided_link.sided_link-index (omega arith)
    c.row_of_node-sided_link-items.ensures.row
    c.loop-sided_link.found.items c.loop-sided_link.invariant
