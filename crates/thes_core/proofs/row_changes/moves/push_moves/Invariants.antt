use Rattle.std.proofs.Common.{◌≡◌, ◌+◌, ◌++◌, drop, map}
use Rattle.thes_tables.specs.declared.change.Change.TheVariants as change
use Rattle.thes_core.specs.Deltas.{move_rows}
use Rattle.thes_core.proofs.row_changes.moves.push_moves.Given as goal

-- The changes so far, followed by the moves of the remaining postings, are the whole list of changes.
abbrev pub invariant-loop-i : goal.invariant-loop-i
invariant-loop-i l = l.delta ++ map change.AddMove (move_rows (l.first + l.i) l.source l.target (drop l.i l.postings))
    ≡ l.fn.delta ++ map change.AddMove (move_rows l.first l.source l.target l.postings)
