use Rattle.std.proofs.Common.{arith}
use Rattle.thes_base.specs.Views.{mapping_cmp}
use Rattle.thes_graph.specs.Mappings.{mapping_seen_from}
use Rattle.thes_base.proofs.KindNameOrderLemmas.{mapping_total, mapping_exact}
use Rattle.thes_base.proofs.ListMemberLemmas.{Contains-none}
use Rattle.thes_graph.proofs.MappingLemmas.{seen_from, seen_to}
use Rattle.thes_lists.proofs.ListingLemmas.{listing_none}
use Rattle.thes_graph.proofs.ReaderLemmas.{seen_more, seen_no_more, seen_listing}
use Rattle.thes_graph.proofs.graph.Graph.mappings.Goals as goal
use Rattle.thes_graph.proofs.graph.Graph.mappings.Goals.{in-Some+in_ok-list_mapping, in_default}

pub loop-sided_link-init : goal.loop-sided_link-init
loop-sided_link-init c = rw c.new-found.ensures.items (listing_none mapping_cmp _ (λ p has. Contains-none p has))

pub loop-sided_link-preserved : goal.loop-sided_link-preserved
loop-sided_link-preserved c =
    elim c.match-mapping_from.branch [
      | in-Some+in_ok-list_mapping w ↦
          rw (w.found-is, w.in_ok-list_mapping.ensures)
          (seen_more mapping_cmp (mapping_seen_from c.args.n) c.row_of_node-sided_link-items.result.now
          c.loop-sided_link.sided_link-index c.sided_link-item.result c.loop-sided_link-test.true
          c.sided_link-item.is c.loop-sided_link.found.items c.loop-sided_link.invariant mapping_total
          mapping_exact w.in-Some.mapping w.in-Some.ensures)
      | in_default w ↦
          rw w.found-is
          (seen_no_more mapping_cmp (mapping_seen_from c.args.n) c.row_of_node-sided_link-items.result.now
          c.loop-sided_link.sided_link-index c.sided_link-item.result c.loop-sided_link-test.true
          c.sided_link-item.is c.loop-sided_link.found.items c.loop-sided_link.invariant w.in_default.ensures)
    ]

pub returns : goal.returns
returns c =
    seen_listing mapping_cmp (mapping_seen_from c.args.n) c.args.self.now.links c.args.n _
    (λ p (l, held, at, gives). seen_from c.args.self.now.links c.args.n l p held at gives)
    (seen_to c.args.self.now.links c.args.n c.row_of_node-sided_link-items.ensures.two_ends)
    c.row_of_node-sided_link-items.result.now c.loop-sided_link.sided_link-index (omega arith)
    c.row_of_node-sided_link-items.ensures.row
    c.loop-sided_link.found.items c.loop-sided_link.invariant
