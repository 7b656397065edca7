use Rattle.std.proofs.Common.{◌∙◌, length, arith}
use Rattle.thes_walks.proofs.TurnLemmas.{turn_smaller}
use Rattle.thes_walks.proofs.upward_link.search_in_turns.Goals as goal

pub turns-preserved : goal.turns-preserved
turns-preserved g c = record {
  limit = omega (arith, c.saturating_add-limit.ensures);
  net = c.in_ok-take_turns.ensures.net ∙ c.turns.invariant.net;
  continues = λ low high from before. (rw (c.if-branch.false, c.turns.invariant.net)
      at c.in_ok-take_turns.ensures.continues) low high from (c.turns.invariant.continues low high from before);
}

pub returns-then-branch-clause-continues : goal.returns-then-branch-clause-continues
returns-then-branch-clause-continues g c low high from before =
    (rw (c.if-branch.true, c.turns.invariant.net) at c.in_ok-take_turns.ensures.continues) low high from
    (c.turns.invariant.continues low high from before)

pub turns-smaller : goal.turns-smaller
turns-smaller g c =
    turn_smaller c.turns.limit c.saturating_add-limit.result c.turns.invariant.limit c.saturating_add-limit.ensures
    (length c.turns.up.nodes) c.turns.up.next (length c.take_turns.new.up.nodes) c.take_turns.new.up.next
    c.turns-test.ensures.done (c.in_ok-take_turns.ensures.done c.if-branch.false)
