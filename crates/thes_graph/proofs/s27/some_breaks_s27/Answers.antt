use Rattle.std.proofs.Common.{◌↔◌, ℕ, List, Contains, sym, subst, ◌∙◌}
use Rattle.std.proofs.lemmas.List.{take_all}
use Rattle.thes_base.specs.Links.{Holds, IsRelated}
use Rattle.thes_links.specs.GraphView.{GraphView}
use Rattle.thes_graph.proofs.S27Lemmas.{s27_found, s27_passed}
use Rattle.thes_graph.proofs.s27.some_breaks_s27.Goals as goal

pub returns-then-some_has_bit-clause-s27 : goal.returns-then-some_has_bit-clause-s27
returns-then-some_has_bit-clause-s27 g c =
    let found = c.if-some_has_bit.ensures in
    s27_found (g.L.Links.net c.args.links.now).links c.args.block.now c.args.words.now c.requires.words.sets c.loop-j.j
    c.index-block-j.result c.loop-j-test.true c.index-block-j.is c.in_ok-related.related.items
    (subst (λ (net : GraphView). (y : ℕ) → Contains c.in_ok-related.related.items y
    ↔ IsRelated (Holds net.links) c.index-block-j.result y) c.loop-j.invariant.net c.in_ok-related.ensures.next)
    c.requires.two_ends found.0
    (subst (λ (ys : List ℕ). Contains ys found.0) c.deref.ensures.value found.1) found.2

pub loop-j-preserved : goal.loop-j-preserved
loop-j-preserved g c = record {
  net = c.in_ok-related.ensures.net ∙ c.loop-j.invariant.net;
  free =
      s27_passed (g.L.Links.net c.args.links.now).links c.args.block.now c.args.words.now c.requires.words.sets
      c.loop-j.j c.index-block-j.result c.loop-j-test.true c.index-block-j.is c.in_ok-related.related.items
      (subst (λ (net : GraphView). (y : ℕ) → Contains c.in_ok-related.related.items y
      ↔ IsRelated (Holds net.links) c.index-block-j.result y) c.loop-j.invariant.net c.in_ok-related.ensures.next)
      (λ y has. c.if-some_has_bit.ensures y (subst (λ (ys : List ℕ). Contains ys y) (sym c.deref.ensures.value) has))
      c.loop-j.invariant.free;
}

pub returns-clause-s27 : goal.returns-clause-s27
returns-clause-s27 g c n has =
    c.loop-j.invariant.free n (subst (λ (ns : List ℕ). Contains ns n)
    (sym (take_all c.loop-j.j c.args.block.now c.loop-j-test.false)) has)
