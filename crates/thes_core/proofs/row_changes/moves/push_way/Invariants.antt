use Rattle.std.proofs.Common.{◌≡◌, ◌+◌, ◌++◌, drop, map}
use Rattle.thes_base.specs.Postings.{moves_along}
use Rattle.thes_tables.specs.Changes.{move_row}
use Rattle.thes_tables.specs.declared.change.Change.TheVariants as change
use Rattle.thes_core.proofs.row_changes.moves.push_way.Given as goal

-- The changes so far, followed by the moves along the remaining path, are the whole list of changes.
abbrev pub invariant-loop-i : goal.invariant-loop-i
invariant-loop-i l =
    l.delta ++ map change.AddMove (map (move_row l.posting) (moves_along (l.first + l.i) l.source (drop l.i l.way)))
    ≡ l.fn.delta ++ map change.AddMove (map (move_row l.posting) (moves_along l.first l.fn.from l.way))
