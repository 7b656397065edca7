-- The rows at some positions of a list.
use Rattle.std.specs.Prelude.{◌≡◌, ℕ, List, [], ◌∷◌, Bool, Option, None, Some, slice_get, slice_set, if◌then◌else◌, ◌==◌}
use Rattle.std.specs.Prelude.{Vec, vec_len}
use Rattle.std.specs.Vec.{vec_capacity}
use Rattle.thes_tables.specs.declared.rows.MoveRow.{MoveRow}

-- Whether the row is that of a move of the posting.
abbrev pub is_move_of : ℕ → MoveRow → Bool
is_move_of posting row = row.posting == posting

-- The list of this value alone; the empty list if there is no value, or the value fails the test.
abbrev pub filtered_option : {A : Type 0} → (A → Bool) → Option A → List A
filtered_option p None = []
filtered_option p (Some row) = if p row then row ∷ [] else []

-- The rows at these positions that pass the test, in the order of the positions; a position past the end has none.
abbrev pub rows_at_positions : {A : Type 0} → (A → Bool) → List A → List ℕ → List A
rows_at_positions p rows [] = []
rows_at_positions p rows (i ∷ positions) = elim (slice_get rows i) [
  | None ↦ rows_at_positions p rows positions
  | Some row ↦ if p row then row ∷ rows_at_positions p rows positions else rows_at_positions p rows positions
]

-- The rows after `f` has changed the one at this position; unchanged if the position is past the end.
abbrev pub rows_after_change_at : {A : Type 0} → (A → A) → ℕ → List A → List A
rows_after_change_at f i rows = elim (slice_get rows i) [ None ↦ rows | Some row ↦ slice_set rows i (f row) ]

-- The rows after `f` has changed those at these positions, one after another.
abbrev pub rows_after_changes_at : {A : Type 0} → (A → A) → List ℕ → List A → List A
rows_after_changes_at f [] rows = rows
rows_after_changes_at f (i ∷ positions) rows = rows_after_changes_at f positions (rows_after_change_at f i rows)

-- A vector has kept its length and its capacity, and so its room for further items.
pub record KeepsRoom {A Z : Type 0} (old new : Vec A Z) : Type 0 where
  pub len : vec_len new ≡ vec_len old
  pub capacity : vec_capacity new ≡ vec_capacity old
