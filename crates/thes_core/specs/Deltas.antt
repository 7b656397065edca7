-- The rows of moves that a merge or a split inserts, and the places that a split sets.
use Rattle.std.specs.Prelude.{ℕ, List, [], ◌∷◌, ◌+◌}
use Rattle.thes_tables.specs.declared.rows.MoveRow.{MoveRow}
use Rattle.thes_tables.specs.declared.change.Change.{Change}
use Rattle.thes_tables.specs.declared.change.Change.TheVariants as change

-- The rows of table move by which the postings move from the source to the target, numbered from `number` on.
abbrev pub move_rows : ℕ → ℕ → ℕ → List ℕ → List MoveRow
move_rows number source target [] = []
move_rows number source target (p ∷ ps) =
    record { number = number; posting = p; source = source; target = target } ∷ move_rows (number + 1) source target ps

-- The change that sets the posting's place to the target.
abbrev pub place_change : ℕ → ℕ → Change
place_change target posting = change.SetPlace posting target
