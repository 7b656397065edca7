use Rattle.std.proofs.Common.{[], ◌∷◌, ℕ, List, sym, subst, ◌∙◌}
use Rattle.std.proofs.lemmas.List.{nil_from_length}
use Rattle.thes_base.specs.Links.{Holds}
use Rattle.thes_base.proofs.ListMemberLemmas.{Contains-head}
use Rattle.thes_graph.specs.CycleSearch.{HasCycle, IsCycleSearch}
use Rattle.thes_graph.specs.declared.find_cycle.PathNode.{PathNode}
use Rattle.thes_links.specs.GraphView.{GraphView}
use Rattle.thes_graph.proofs.CycleSearchLemmas.{IsCycleSearch-start, IsCycleSearch-end}
use Rattle.thes_graph.proofs.find_cycle.find_cycle.Goals as goal

pub loop-last-init : goal.loop-last-init
loop-last-init g c = record {
  net = c.in_ok-first.ensures.net;
  climbs =
      rw (c.in_ok-stack.ensures.items, c.in_ok-nodes.ensures)
      (subst (λ (n : ℕ). IsCycleSearch (Holds (g.L.Links.net c.args.links.now).links) (n ∷ []) c.args.done.now
      (c.in_ok-first.first ∷ [])) c.in_ok-first.ensures.node
      (IsCycleSearch-start (Holds (g.L.Links.net c.args.links.now).links) c.args.done.now c.in_ok-first.first c.requires
      (rw c.in_ok-first.ensures.node c.in_ok-first.ensures.above)));
  start = rw c.in_ok-nodes.ensures (Contains-head c.args.start []);
  extends = λ n has. has;
}

pub loop-last-preserved : goal.loop-last-preserved
loop-last-preserved g c = record {
  net = c.in_ok-advance_path.ensures.net ∙ c.loop-last.invariant.net;
  climbs =
      subst (λ (net : GraphView). IsCycleSearch (Holds net.links) c.advance_path.new.search.nodes
      c.advance_path.new.done
      c.advance_path.new.search.stack.items) c.loop-last.invariant.net
      (rw c.if-branch.false at c.in_ok-advance_path.ensures.outcome.verdict);
  start = c.in_ok-advance_path.ensures.outcome.met_growth c.args.start c.loop-last.invariant.start;
  extends = λ n has. c.in_ok-advance_path.ensures.outcome.done_growth n (c.loop-last.invariant.extends n has);
}

pub returns-then-branch-clause-outcome : goal.returns-then-branch-clause-outcome
returns-then-branch-clause-outcome g c = record {
  verdict =
      subst (λ (net : GraphView). HasCycle (Holds net.links)) c.loop-last.invariant.net
      (rw c.if-branch.true at c.in_ok-advance_path.ensures.outcome.verdict);
  growth = λ n has. c.in_ok-advance_path.ensures.outcome.done_growth n (c.loop-last.invariant.extends n has);
  order = λ e. absurd (cc);
}

pub returns-clause-outcome : goal.returns-clause-outcome
returns-clause-outcome g c = record {
  verdict =
      IsCycleSearch-end (Holds (g.L.Links.net c.args.links.now).links) c.loop-last.search.nodes c.loop-last.done
      (subst (λ (stack : List PathNode). IsCycleSearch (Holds (g.L.Links.net c.args.links.now).links)
      c.loop-last.search.nodes
      c.loop-last.done stack)
      (nil_from_length c.loop-last.search.stack.items (sym c.loop-last.search.stack.ok.0
      ∙ c.in_default.ensures.cases.0))
      c.loop-last.invariant.climbs)
      c.args.start c.loop-last.invariant.start;
  growth = c.loop-last.invariant.extends;
  order = λ _. c.loop-last.invariant.climbs.order;
}
