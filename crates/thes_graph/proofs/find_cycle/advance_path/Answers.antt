use Rattle.std.proofs.Common.{◌≡◌, ◌-◌, ◌++◌, ◌∷◌, [], take, refl, ap, ◌∙◌, arith}
use Rattle.thes_base.specs.Links.{Holds}
use Rattle.thes_graph.proofs.CycleSearchLemmas.{GrowsBy-keeps, GrowsBy-longer, IsCycleSearch-done, IsCycleSearch-fewer}
use Rattle.thes_graph.proofs.CycleSearchLemmas.{HasCycle-met, IsCycleSearch-more, search_measure-done}
use Rattle.thes_graph.proofs.CycleSearchLemmas.{search_measure-fewer, search_measure-more, none_above, last_above}
use Rattle.thes_graph.proofs.CycleSearchLemmas.{all_but_last, done_or_left, left_above, fewer_left}
use Rattle.thes_graph.proofs.find_cycle.advance_path.Given.{Over}
use Rattle.thes_graph.proofs.find_cycle.advance_path.Goals as goal
use Rattle.thes_graph.proofs.find_cycle.advance_path.Goals.{After-pop}

-- The pop removes the last broader node from the list of those still to be searched from.
popped : (g : Over) (c : After-pop g) → c.args.last.above.items ≡ c.pop.new.self.items ++ c.in-Some.high ∷ []
popped g c =
    all_but_last c.args.last.above.items c.pop.new.self.items c.in-Some.high
    (c.in-Some.ensures ∙ rw c.deref.ensures.value at c.last.ensures.value)
    (c.pop.ensures.rest ∙ ap (λ n. take (n - 1) c.args.last.above.items) c.args.last.above.ok.0)

pub returns-in_default-clause-outcome : goal.returns-in_default-clause-outcome
returns-in_default-clause-outcome g c = record {
  verdict =
      IsCycleSearch-done (Holds (g.L.Links.net c.args.links.now).links) c.args.search.now.nodes c.args.done.now
      c.args.search.now.stack.items c.args.last c.requires c.meet.new.self
      (none_above c.args.last.above.items c.copied.result (c.copied.ensures ∙ rw c.deref.ensures.value
      at c.last.ensures.value) c.in_default.not-Some)
      c.in_ok-meet.ensures.grows;
  met_growth = λ n has. has;
  done_growth = GrowsBy-keeps c.args.done.now c.meet.new.self (λ n. c.args.last.node ≡ n) c.in_ok-meet.ensures.grows;
  descent = λ _. search_measure-done c.args.search.now.nodes c.args.search.now.stack.items c.args.last;
}

pub returns-then-has-clause-outcome : goal.returns-then-has-clause-outcome
returns-then-has-clause-outcome g c =
    let all = popped g (goal.at.returns-then-has-clause-outcome g c).After-pop in
    record {
      verdict =
          rw c.in_ok-push.ensures.items
          (IsCycleSearch-fewer (Holds (g.L.Links.net c.args.links.now).links) c.args.search.now.nodes c.args.done.now
          c.args.search.now.stack.items c.args.last c.requires _ refl
          (done_or_left c.args.last.above.items c.pop.new.self.items c.in-Some.high all c.args.done.now
          (rw c.if-has.true at c.has.ensures))
          (left_above c.args.last.above.items c.pop.new.self.items c.in-Some.high all));
      met_growth = λ n has. has;
      done_growth = λ n has. has;
      descent = λ _. rw c.in_ok-push.ensures.items (search_measure-fewer c.args.search.now.nodes
          c.args.search.now.stack.items
          c.args.last _ (fewer_left c.args.last.above.items c.pop.new.self.items c.in-Some.high all));
    }

pub returns-then-has-2-clause-outcome : goal.returns-then-has-2-clause-outcome
returns-then-has-2-clause-outcome g c = record {
  verdict =
      HasCycle-met (Holds (g.L.Links.net c.args.links.now).links) c.args.search.now.nodes c.args.done.now
      c.args.search.now.stack.items
      c.args.last c.requires c.in-Some.high
      (last_above c.args.last.above.items c.in-Some.high (c.in-Some.ensures ∙ rw c.deref.ensures.value
      at c.last.ensures.value))
      (rw c.if-has-2.true at c.has-2.ensures) (rw c.if-has.false at c.has.ensures);
  met_growth = λ n has. has;
  done_growth = λ n has. has;
  descent = λ e. absurd (cc);
}

pub returns-clause-outcome : goal.returns-clause-outcome
returns-clause-outcome g c = record {
  verdict =
      rw (c.in_ok-push-3.ensures.items, c.in_ok-push-2.ensures.items)
      (IsCycleSearch-more (Holds (g.L.Links.net c.args.links.now).links) c.args.search.now.nodes c.args.done.now
      c.args.search.now.stack.items c.args.last c.requires c.meet-2.new.self c.in_ok-next.next
      (rw c.in_ok-next.ensures.node (last_above c.args.last.above.items c.in-Some.high
      (c.in-Some.ensures ∙ rw c.deref.ensures.value at c.last.ensures.value)))
      (rw c.in_ok-next.ensures.node c.in_ok-meet-2.ensures.grows)
      (rw c.in_ok-next.ensures.node c.in_ok-next.ensures.above));
  met_growth = GrowsBy-keeps c.args.search.now.nodes c.meet-2.new.self (λ n. c.in-Some.high
      ≡ n) c.in_ok-meet-2.ensures.grows;
  done_growth = λ n has. has;
  descent = λ _.
      rw (c.in_ok-push-3.ensures.items, c.in_ok-push-2.ensures.items)
      (search_measure-more c.args.search.now.nodes c.meet-2.new.self c.args.search.now.stack.items c.args.last
      c.in_ok-next.next
      (GrowsBy-longer c.args.search.now.nodes c.meet-2.new.self c.in-Some.high c.in_ok-meet-2.ensures.grows
      (rw c.if-has-2.false at c.has-2.ensures))
      c.in_ok-meet-2.ensures.small (omega (arith, c.in_ok-next.next.above.small)));
}
