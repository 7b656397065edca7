use Rattle.std.proofs.Common.{◌≡◌, ◌+◌, inl, inr, List, Some, slice_get, ap, sym, ◌∙◌, false, arith}
use Rattle.std.specs.Prelude.{option_and_then}
use Rattle.thes_base.specs.declared.data.Link.{Link}
use Rattle.thes_links.specs.GraphView.{GraphView}
use Rattle.thes_walks.specs.SideSearch.{far_node_after, LeadsWithin}
use Rattle.thes_walks.proofs.SideSearchLemmas.{IsSearchResult-same, IsSearchResult-then, LeadsWithin-before}
use Rattle.thes_walks.proofs.SideSearchLemmas.{LeadsWithin-last, LeadsWithin-parts, LeadsWithin-to}
use Rattle.thes_walks.proofs.side_search.follow_part.Goals as goal

pub loop-i-preserved : goal.loop-i-preserved
loop-i-preserved g c = record {
  net = c.step_at_place-next.ensures.net ∙ c.loop-i.invariant.net;
  finds =
      let row : List Link = g.L.Links.links_of (g.L.Links.net c.args.links.now) c.args.range.at in
      let led_here : c.step_at_place-next.result
      ≡ option_and_then (far_node_after c.args.edit.now c.args.range.at c.args.range.x) (slice_get row c.loop-i.i) =
      c.step_at_place-next.ensures.far
      ∙ ap (λ (net : GraphView). option_and_then (far_node_after c.args.edit.now c.args.range.at c.args.range.x)
      (slice_get (g.L.Links.links_of net c.args.range.at) c.loop-i.i)) c.loop-i.invariant.net in
      IsSearchResult-then c.args.nodes.now c.loop-i.nodes c.take.new.nodes c.args.goals.now
      (LeadsWithin (far_node_after c.args.edit.now c.args.range.at c.args.range.x) row c.args.range.part.from
      c.loop-i.i)
      (λ y. c.step_at_place-next.result ≡ Some y)
      (LeadsWithin (far_node_after c.args.edit.now c.args.range.at c.args.range.x) row c.args.range.part.from
      (c.loop-i.i + 1))
      (λ y within. elim (LeadsWithin-parts (far_node_after c.args.edit.now c.args.range.at c.args.range.x) row
      c.args.range.part.from
      c.loop-i.i y
      within) [ inl before ↦ inl before | inr now ↦ inr (led_here ∙ now) ])
      (LeadsWithin-before (far_node_after c.args.edit.now c.args.range.at c.args.range.x) row c.args.range.part.from
      c.loop-i.i)
      (λ y is. LeadsWithin-last (far_node_after c.args.edit.now c.args.range.at c.args.range.x) row
      c.args.range.part.from c.loop-i.i y
      c.loop-i.auto.i (sym led_here ∙ is))
      c.loop-i.invariant.finds false (rw c.if-branch.false at c.in_ok-take.ensures);
  count = omega (arith, c.step_at_place-next.ensures.count, c.loop-i.invariant.count, c.loop-i.auto.i);
  within = omega (arith, c.loop-i.auto.i, c.loop-i-test.true);
}

pub returns-clause-finds : goal.returns-clause-finds
returns-clause-finds g c =
    let row : List Link = g.L.Links.links_of (g.L.Links.net c.args.links.now) c.args.range.at in
    IsSearchResult-same c.args.nodes.now c.loop-i.nodes c.args.goals.now
    (LeadsWithin (far_node_after c.args.edit.now c.args.range.at c.args.range.x) row c.args.range.part.from c.loop-i.i)
    (LeadsWithin (far_node_after c.args.edit.now c.args.range.at c.args.range.x) row c.args.range.part.from
    c.args.range.part.to)
    (λ y. LeadsWithin-to (far_node_after c.args.edit.now c.args.range.at c.args.range.x) row c.args.range.part.from
    c.loop-i.i
    c.args.range.part.to y
    c.loop-i.invariant.within)
    (λ y. LeadsWithin-to (far_node_after c.args.edit.now c.args.range.at c.args.range.x) row c.args.range.part.from
    c.args.range.part.to
    c.loop-i.i y
    (omega (arith, c.loop-i-test.false)))
    false c.loop-i.invariant.finds
