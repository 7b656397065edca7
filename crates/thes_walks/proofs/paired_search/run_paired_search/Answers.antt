use Rattle.std.proofs.Common.{◌∙◌, length, arith}
use Rattle.thes_walks.proofs.TurnLemmas.{paired_turn_smaller}
use Rattle.thes_walks.proofs.paired_search.run_paired_search.Goals as goal

pub turns-preserved : goal.turns-preserved
turns-preserved g c = record {
  limit = omega (arith, c.saturating_add-limit.ensures);
  net = c.in_ok-take_paired_turns.ensures.net ∙ c.turns.invariant.net;
  continues = λ from to before are. (rw (c.if-branch.false, c.turns.invariant.net) at
      c.in_ok-take_paired_turns.ensures.continues)
      from to before (c.turns.invariant.continues from to before are);
}

pub returns-then-branch-clause-continues : goal.returns-then-branch-clause-continues
returns-then-branch-clause-continues g c from to before are =
    (rw (c.if-branch.true, c.turns.invariant.net) at c.in_ok-take_paired_turns.ensures.continues) from to before
    (c.turns.invariant.continues from to before are)

pub turns-smaller : goal.turns-smaller
turns-smaller g c =
    paired_turn_smaller c.turns.limit c.saturating_add-limit.result c.turns.invariant.limit
    c.saturating_add-limit.ensures (length c.turns.paired.first.nodes) (length c.turns.paired.second.nodes)
    c.turns.paired.first.next
    c.turns.paired.second.next (length c.take_paired_turns.new.paired.first.nodes)
    (length c.take_paired_turns.new.paired.second.nodes)
    c.take_paired_turns.new.paired.first.next c.take_paired_turns.new.paired.second.next c.turns-test.ensures.done
    c.if-not-is_done.ensures.done (c.in_ok-take_paired_turns.ensures.done c.if-branch.false)

pub returns-else-not-is_done-clause-continues : goal.returns-else-not-is_done-clause-continues
returns-else-not-is_done-clause-continues g c from to before are =
    c.turns.invariant.continues from to before are

pub returns-after-turns-clause-continues : goal.returns-after-turns-clause-continues
returns-after-turns-clause-continues g c from to before are =
    c.turns.invariant.continues from to before are
