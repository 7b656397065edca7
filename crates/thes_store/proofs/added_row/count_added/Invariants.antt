use Rattle.std.proofs.Common.{◌≡◌, ◌≤◌, length, take}
use Rattle.thes_store.specs.AddedRow.{rows_added_by}
use Rattle.thes_store.proofs.added_row.count_added.Given as goal

abbrev pub invariant-loop-change : goal.invariant-loop-change
invariant-loop-change g l = (l.count ≡ length (rows_added_by g.T.AddedRow.added_row (take l.change-index l.changes)))
    × (l.count ≤ l.change-index)
