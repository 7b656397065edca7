use Rattle.std.proofs.Common.{◌+◌, ℕ, List, Contains, ap, ◌∙◌, arith}
use Rattle.thes_base.specs.Links.{Holds}
use Rattle.thes_graph.proofs.WholeLemmas.{HoldsBelow, IsDone, holds_more, holds_all, s46_all}
use Rattle.thes_graph.proofs.whole.breaks_s46.Goals as goal
use Rattle.thes_graph.proofs.whole.breaks_s46.Goals.{else-has_direction-via-then-has_direction+then-not-has+in_ok-breaks_s46_at+else-branch}
use Rattle.thes_graph.proofs.whole.breaks_s46.Goals.{else-has_direction-via-then-has_direction+else-not-has}
use Rattle.thes_graph.proofs.whole.breaks_s46.Goals.{else-has_direction-via-else-has_direction}

pub breaks_s46_at-requires-clause-done : goal.breaks_s46_at-requires-clause-done
breaks_s46_at-requires-clause-done g c = rw c.loop-link.invariant.net c.loop-link.invariant.free

pub loop-link-preserved : goal.loop-link-preserved
loop-link-preserved g c =
    elim c.else-has_direction.branch [
      | else-has_direction-via-then-has_direction+then-not-has+in_ok-breaks_s46_at+else-branch w ↦ record {
        net = ap g.L.Links.net w.links-is ∙ w.in_ok-breaks_s46_at.ensures.net ∙ c.loop-link.invariant.net;
        free = rw (w.done-is, ← c.loop-link.invariant.net) w.in_ok-breaks_s46_at.ensures.outcome.classes;
        done =
            rw w.done-is
            (more w.breaks_s46_at.new.done w.in_ok-breaks_s46_at.ensures.outcome.growth
            (λ _. rw w.if-branch.false at w.in_ok-breaks_s46_at.ensures.outcome.verdict));
      }
      | else-has_direction-via-then-has_direction+else-not-has w ↦ record {
        net = ap g.L.Links.net w.links-is ∙ c.loop-link.invariant.net;
        free = rw w.done-is c.loop-link.invariant.free;
        done = rw w.done-is (more c.loop-link.done (λ m has. has) (λ _. rw w.if-not-has.false at w.has.ensures));
      }
      | else-has_direction-via-else-has_direction w ↦ record {
        net = ap g.L.Links.net w.links-is ∙ c.loop-link.invariant.net;
        free = rw w.done-is c.loop-link.invariant.free;
        done = rw w.done-is
            (more c.loop-link.done (λ m has. has)
            (λ has. absurd ((rw w.if-has_direction.false at c.has_direction.ensures) has)));
      }
    ]
  where
    more : (done : List ℕ) → ((m : ℕ) → Contains c.loop-link.done m → Contains done m)
        → IsDone (Holds (g.L.Links.net c.args.links.now).links) done c.link-item.result
        → HoldsBelow (IsDone (Holds (g.L.Links.net c.args.links.now).links) done) c.args.all.now
        (c.loop-link.link-index + 1)
    more done extends now =
        holds_more (IsDone (Holds (g.L.Links.net c.args.links.now).links) done) c.args.all.now c.loop-link.link-index
        c.link-item.result c.loop-link-test.true c.link-item.is
        (λ k d lt has. extends _ (c.loop-link.invariant.done k d lt has)) now

pub returns-clause-s46 : goal.returns-clause-s46
returns-clause-s46 g c =
    s46_all (Holds (g.L.Links.net c.args.links.now).links) c.loop-link.done c.loop-link.invariant.free
    (λ l held. holds_all (IsDone (Holds (g.L.Links.net c.args.links.now).links) c.loop-link.done) c.args.all.now
    c.loop-link.link-index (omega arith) c.loop-link.invariant.done l (c.requires.complete l held))
