use Rattle.std.proofs.Common.{◌+◌, ◌≤◌, List, arith, ◌∙◌, sum_by, Contains, refl, sym}
use Rattle.std.proofs.lemmas.Option.{slice_get_within, get_or_from_slice_get}
use Rattle.thes_base.specs.declared.data.Link.{Link}
use Rattle.thes_links.specs.Steps.{GrowsBy, Steps}
use Rattle.thes_links.specs.LinkEdit.{IsReadOf, CoversAt, ends_at_node, row_after_edit}
use Rattle.thes_links.proofs.WalkLemmas.{IsGatherState-start, IsGatherState-more, set_gathered, gather_cost}
use Rattle.thes_links.proofs.walk.gather.Goals as goal

pub loop-x-init : goal.loop-x-init
loop-x-init g c = record {
  net = refl;
  small = omega arith;
  walked = rw (c.in_ok-nodes.ensures, c.new-found.ensures.items)
      (IsGatherState-start c.args.edit.now (g.L.Links.net c.args.links.now).links c.args.relation c.args.start
      (g.L.Links.count c.args.links.now));
}

pub loop-x-preserved : goal.loop-x-preserved
loop-x-preserved g c = record {
  net = c.in_ok-raw.ensures.net ∙ c.loop-x.invariant.net;
  small = omega (
    arith,
    c.in-Some.ensures.small,
    slice_get_within c.loop-x.nodes c.loop-x.i c.in-Some.x
        (sym c.in-Some.ensures.node),
  );
  walked =
      let is : IsReadOf c.args.edit.now (g.L.Links.net c.args.links.now).links c.in-Some.x c.in_ok-raw.raw.items =
      rw c.loop-x.invariant.net at c.in_ok-raw.ensures.read in
      let grows : GrowsBy c.loop-x.nodes c.meet_steps.new.nodes
      (Steps c.args.relation (Contains (row_after_edit c.args.edit.now c.in_ok-raw.raw.items)) c.in-Some.x) =
      rw (c.deref.ensures.value, c.in_ok-row.ensures) at c.in_ok-meet_steps.ensures in
      let cost : (ns : List Link) → CoversAt c.args.edit.now (g.L.Links.net c.args.links.now).links c.in-Some.x ns
      → g.L.Links.count c.read.new.links ≤ g.L.Links.count c.loop-x.links
      + sum_by (ends_at_node c.args.edit.now c.in-Some.x) ns =
      rw c.loop-x.invariant.net at c.in_ok-raw.ensures.count in
      rw (c.in_ok-extend_from_slice.ensures.items, c.deref-in-Some.ensures.value, c.in_ok-row.ensures)
      (IsGatherState-more c.args.edit.now (g.L.Links.net c.args.links.now).links c.args.relation c.args.start
      c.loop-x.nodes c.meet_steps.new.nodes c.loop-x.found.items c.in_ok-raw.raw.items
      c.loop-x.i c.in-Some.x (g.L.Links.count c.args.links.now) (g.L.Links.count c.loop-x.links)
      (g.L.Links.count c.read.new.links)
      (slice_get_within c.loop-x.nodes c.loop-x.i c.in-Some.x (sym c.in-Some.ensures.node))
      (sym (get_or_from_slice_get c.loop-x.nodes c.loop-x.i c.in-Some.x 0 (sym c.in-Some.ensures.node)))
      is grows cost c.loop-x.invariant.walked);
}

pub returns-clause-gathered : goal.returns-clause-gathered
returns-clause-gathered g c =
    set_gathered c.args.edit.now (g.L.Links.net c.args.links.now).links c.args.relation c.args.start c.loop-x.nodes
    c.loop-x.found.items c.loop-x.i _ _ (sym c.in_default.ensures.node) c.loop-x.invariant.walked

pub returns-clause-count : goal.returns-clause-count
returns-clause-count g c =
    gather_cost c.args.edit.now (g.L.Links.net c.args.links.now).links c.args.relation c.args.start c.loop-x.nodes
    c.loop-x.found.items c.loop-x.i _ _ (sym c.in_default.ensures.node) c.loop-x.invariant.walked
