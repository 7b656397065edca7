use Rattle.std.proofs.Common.{ap, sym, ◌∙◌, arith, ◌++◌, ◌∷◌, [], slice_get}
use Rattle.thes_links.proofs.WeightLemmas.{take_next}
use Rattle.thes_links.specs.GraphView.{GraphView}
use Rattle.thes_links.proofs.walk.fetch.Goals as goal

pub loop-i-preserved : goal.loop-i-preserved
loop-i-preserved g c = record {
  net = c.in-Some.ensures.net ∙ c.loop-i.invariant.net;
  so_far =
      c.in_ok-push-in-Some.ensures.items
      ∙ ap (λ xs. xs ++ c.in-Some.link ∷ []) c.loop-i.invariant.so_far
      ∙ sym (take_next (g.L.Links.links_of (g.L.Links.net c.args.links.now) c.args.node) c.loop-i.i c.in-Some.link
      (c.in-Some.ensures.link ∙ ap (λ (net : GraphView). slice_get (g.L.Links.links_of net c.args.node) c.loop-i.i)
      c.loop-i.invariant.net));
  count = omega (arith, c.in-Some.ensures.count, c.loop-i.invariant.count);
  within = omega (arith, c.in_ok-push-in-Some.ensures.len, c.loop-i.invariant.within);
}
