-- Indexes that have each posting and each move of the tables.
use Rattle.std.specs.Prelude.{◌≡◌, ◌≢◌, ◌-◌, ℕ, List, length, Some, slice_get, take, Result, OnOk}
use Rattle.thes_tables.specs.declared.change.Change.{Change}
use Rattle.thes_tables.specs.declared.change.Change.TheVariants as change
use Rattle.thes_tables.specs.declared.rows.PostingRow.{PostingRow}
use Rattle.thes_tables.specs.declared.rows.MoveRow.{MoveRow}
use Rattle.thes_tables.specs.Tables.{Tables}
use Rattle.thes_tables.specs.Rows.{tables_after_delta}
use Rattle.thes_store.specs.declared.posting_indexes.PostingIndexes.{PostingIndexes}
use Rattle.thes_store.specs.declared.position_sets.PositionSets.{PositionSets}
use Rattle.thes_store.specs.PositionSets.{HasPosition, KeepsPositions}
use Rattle.thes_store.specs.Keys.{KeyHasPosition}

-- The index has each posting's position under its place.
abbrev pub IndexesByPlace : PositionSets → List PostingRow → Type 0
IndexesByPlace index rows = (i : ℕ) (row : PostingRow) → slice_get rows i ≡ Some row → HasPosition index row.place i

-- The index has each posting's position under its place after each prefix of the changes.
abbrev pub IndexesByPlaceThroughout : PositionSets → List Change → Tables → Type 0
IndexesByPlaceThroughout index changes t =
    (k : ℕ) → IndexesByPlace index (tables_after_delta (take k changes) t).posting

-- The indexes have each row: a posting under its key and under its place, and a move under its posting. They may have
-- superfluous positions.
pub record Covers (x : PostingIndexes) (t : Tables) : Type 0 where
  pub keys : (i : ℕ) (row : PostingRow) → slice_get t.posting i ≡ Some row → KeyHasPosition x.keys row.key i
  pub standing : IndexesByPlace x.standing t.posting
  pub moves : (i : ℕ) (row : MoveRow) → slice_get t.move i ≡ Some row → HasPosition x.moves row.posting i

-- The key differs from that of the posting that the change inserts, if it inserts one.
abbrev pub IsOtherKey : Change → List ℕ → Type 0
IsOtherKey (change.AddPosting row) key = key ≢ row.key
IsOtherKey _ key = Unit {0}

-- The new indexes have all positions of the old ones, except perhaps under keys for which `IsKept` doesn't hold.
pub record IndexesGrowBy (IsKept : List ℕ → Type 0) (old new : PostingIndexes) : Type 0 where
  pub keys : (key : List ℕ) (i : ℕ) → IsKept key → KeyHasPosition old.keys key i → KeyHasPosition new.keys key i
  pub standing : KeepsPositions old.standing new.standing
  pub moves : KeepsPositions old.moves new.moves

-- The new indexes have all positions of the old ones, except perhaps under the key that the change inserts.
abbrev pub IndexesGrow : Change → PostingIndexes → PostingIndexes → Type 0
IndexesGrow c old new = IndexesGrowBy (IsOtherKey c) old new

-- The indexes have the posting at this position, under its key and under its place.
abbrev pub IsIndexedAt : PostingIndexes → PostingRow → ℕ → Type 0
IsIndexedAt x row i = KeyHasPosition x.keys row.key i × HasPosition x.standing row.place i

-- The indexes have each posting or move that the change inserts, and each posting that it assigns to another concept; a
-- move that it inserts has position `step`.
abbrev pub CoversChange : PostingIndexes → Change → Tables → ℕ → Type 0
CoversChange x (change.AddPosting row) t step = IsIndexedAt x row (length t.posting)
CoversChange x (change.SetPlace n place) t step = HasPosition x.standing place (n - 1)
CoversChange x (change.MoveAll source target) t step = (i : ℕ) (row : PostingRow) → slice_get t.posting i ≡ Some row
    → row.place ≡ source → HasPosition x.standing target i
CoversChange x (change.AddMove row) t step = HasPosition x.moves row.posting step
CoversChange x _ t step = Unit {0}

-- The number of moves that a change inserts, 0 or 1.
abbrev pub added_move_count : Change → ℕ
added_move_count (change.AddMove row) = 1
added_move_count _ = 0

-- The indexes have each row of the tables after the changes, and each posting under its place after each prefix of
-- them.
pub record CoversAll (x : PostingIndexes) (changes : List Change) (t : Tables) : Type 0 where
  pub last : Covers x (tables_after_delta changes t)
  pub standing : IndexesByPlaceThroughout x.standing changes t

-- The indexes have each row of the tables, and on success also each row of the tables after the changes.
abbrev pub CoversBoth : {E : Type 0} → PostingIndexes → List Change → Tables → Result (Unit {0}) E → Type 0
CoversBoth x changes t result = Covers x t × OnOk result (CoversAll x changes t)
