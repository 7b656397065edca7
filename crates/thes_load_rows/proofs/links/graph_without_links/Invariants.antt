use Rattle.thes_load_rows.specs.LinksSoFar.{MarksFirst}
use Rattle.thes_load_rows.proofs.links.graph_without_links.Given as goal

-- The outside concepts read so far are marked.
abbrev pub invariant-loop-i : goal.invariant-loop-i
invariant-loop-i l = MarksFirst l.resources l.i l.graph
