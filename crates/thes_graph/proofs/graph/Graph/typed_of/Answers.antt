use Rattle.std.proofs.Common.{arith}
use Rattle.thes_base.specs.Views.{typed_cmp}
use Rattle.thes_graph.specs.Mappings.{typed_link_seen_from}
use Rattle.thes_base.proofs.KindNameOrderLemmas.{typed_total, typed_exact}
use Rattle.thes_base.proofs.ListMemberLemmas.{Contains-none}
use Rattle.thes_graph.proofs.MappingLemmas.{typed_from, typed_to}
use Rattle.thes_lists.proofs.ListingLemmas.{listing_none}
use Rattle.thes_graph.proofs.LinkOrderLemmas.{typed_inserted, typed_rises}
use Rattle.thes_graph.proofs.ReaderLemmas.{seen_more, seen_no_more, seen_listing}
use Rattle.thes_graph.proofs.graph.Graph.typed_of.Goals as goal
use Rattle.thes_graph.proofs.graph.Graph.typed_of.Goals.{in-Some+in_ok-insert_sorted, in_default}

pub loop-sided_link-init : goal.loop-sided_link-init
loop-sided_link-init c = rw c.new-found.ensures.items (listing_none typed_cmp _ (λ p has. Contains-none p has))

pub loop-sided_link-preserved : goal.loop-sided_link-preserved
loop-sided_link-preserved c =
    elim c.match-typed_link_from.branch [
      | in-Some+in_ok-insert_sorted w ↦
          rw (w.found-is, w.in_ok-insert_sorted.ensures, typed_inserted c.loop-sided_link.found.items w.in-Some.typed)
          (seen_more typed_cmp (typed_link_seen_from c.args.n) c.row_of_node-sided_link-items.result.now
          c.loop-sided_link.sided_link-index c.sided_link-item.result c.loop-sided_link-test.true
          c.sided_link-item.is c.loop-sided_link.found.items c.loop-sided_link.invariant typed_total typed_exact
          w.in-Some.typed w.in-Some.ensures)
      | in_default w ↦
          rw w.found-is
          (seen_no_more typed_cmp (typed_link_seen_from c.args.n) c.row_of_node-sided_link-items.result.now
          c.loop-sided_link.sided_link-index c.sided_link-item.result c.loop-sided_link-test.true
          c.sided_link-item.is c.loop-sided_link.found.items c.loop-sided_link.invariant w.in_default.ensures)
    ]

pub insert_sorted-requires : goal.insert_sorted-requires
insert_sorted-requires c = typed_rises c.loop-sided_link.found.items c.loop-sided_link.invariant.rises

pub returns : goal.returns
returns c =
    seen_listing typed_cmp (typed_link_seen_from c.args.n) c.args.self.now.links c.args.n _
    (typed_from c.args.self.now.links c.args.n)
    (typed_to c.args.self.now.links c.args.n c.row_of_node-sided_link-items.ensures.two_ends)
    c.row_of_node-sided_link-items.result.now c.loop-sided_link.sided_link-index (omega arith)
    c.row_of_node-sided_link-items.ensures.row
    c.loop-sided_link.found.items c.loop-sided_link.invariant
