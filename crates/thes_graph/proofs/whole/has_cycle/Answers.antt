use Rattle.std.proofs.Common.{ℕ, Contains, subst, ◌∙◌, arith}
use Rattle.thes_base.specs.declared.data.Link.{Link}
use Rattle.thes_base.specs.Links.{Holds}
use Rattle.thes_graph.specs.CycleSearch.{IsUpwardOrder}
use Rattle.thes_graph.specs.Whole.{HasAllEnds}
use Rattle.thes_links.specs.GraphView.{GraphView}
use Rattle.thes_graph.proofs.WholeLemmas.{holds_more, holds_all, no_cycle_all}
use Rattle.thes_graph.proofs.whole.has_cycle.Goals as goal

pub find_cycle-requires : goal.find_cycle-requires
find_cycle-requires g c = rw c.loop-link.invariant.net c.loop-link.invariant.order

pub find_cycle-requires-in-loop-link : goal.find_cycle-requires-in-loop-link
find_cycle-requires-in-loop-link g c = rw c.in_ok-find_cycle.ensures.net
    (c.in_ok-find_cycle.ensures.outcome.order c.if-branch.false)

pub loop-link-preserved : goal.loop-link-preserved
loop-link-preserved g c = record {
  net = c.in_ok-find_cycle-2.ensures.net ∙ c.in_ok-find_cycle.ensures.net ∙ c.loop-link.invariant.net;
  order =
      subst (λ (net : GraphView). IsUpwardOrder (Holds net.links) c.find_cycle-in-loop-link.new.done)
      (c.in_ok-find_cycle.ensures.net ∙ c.loop-link.invariant.net)
      (c.in_ok-find_cycle-2.ensures.outcome.order c.if-branch-2.false);
  ends =
      holds_more (λ (m : Link). Contains c.find_cycle-in-loop-link.new.done m.a
      × Contains c.find_cycle-in-loop-link.new.done m.b)
      c.args.all.now c.loop-link.link-index c.link-item.result c.loop-link-test.true c.link-item.is
      (λ k d lt. let both = c.loop-link.invariant.ends k d lt in (later _ both.0, later _ both.1)) (
        c.in_ok-find_cycle-2.ensures.outcome.growth _ (rw c.if-branch.false at c.in_ok-find_cycle.ensures.outcome.verdict),
        (rw c.if-branch-2.false at c.in_ok-find_cycle-2.ensures.outcome.verdict),
      );
}
  where
    later : (n : ℕ) → Contains c.loop-link.order n → Contains c.find_cycle-in-loop-link.new.done n
    later n has = c.in_ok-find_cycle-2.ensures.outcome.growth n (c.in_ok-find_cycle.ensures.outcome.growth n has)

pub returns-clause-cycle : goal.returns-clause-cycle
returns-clause-cycle g c = (
  no_cycle_all (Holds (g.L.Links.net c.args.links.now).links)
      (λ l held. c.loop-link.invariant.order.free l.a (ends l held).0),
  record { order = c.loop-link.invariant.order; ends = ends },
)
  where
    ends : HasAllEnds (Holds (g.L.Links.net c.args.links.now).links) c.loop-link.order
    ends l held = holds_all (λ (m : Link). Contains c.loop-link.order m.a × Contains c.loop-link.order m.b)
        c.args.all.now c.loop-link.link-index (omega arith) c.loop-link.invariant.ends l
        (c.requires.all.complete l held)
