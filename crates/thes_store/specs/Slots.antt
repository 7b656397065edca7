-- A list of rows, with gaps where rows were removed, and its index.
use Rattle.std.specs.Prelude.{◌≡◌, ◌≤◌, ◌+◌, ◌++◌, ◌∷◌, [], ℕ, List, Bool, false, not, Option, Some, length, filter}
use Rattle.std.specs.Prelude.{slice_get, vec_len}
use Rattle.std.specs.List.{filter_map}
use Rattle.std.specs.Vec.{vec_capacity}
use Rattle.thes_store.specs.declared.slots.Slots.{Slots}
use Rattle.thes_store.specs.PositionLists.{HasListedPosition, KeepsListedPositions}

module _ {A : Type 0} where
  -- The rows in their order, without the gaps.
  abbrev pub rows_in : Slots A → List A
  rows_in s = filter_map (λ slot. slot) s.rows.items

  -- The index has each row's position under its number.
  abbrev pub AreIndexedBy : (A → ℕ) → Slots A → Type 0
  AreIndexedBy number s = (i : ℕ) (row : A) → slice_get s.rows.items i ≡ Some (Some row)
      → HasListedPosition s.index (number row) i

  -- The index has the positions that rows to be appended will get, under the numbers of these rows.
  abbrev pub AreExpected : (A → ℕ) → Slots A → List A → Type 0
  AreExpected number s coming = (k : ℕ) (row : A) → slice_get coming k ≡ Some row → HasListedPosition s.index
      (number row)
      (vec_len s.rows + k)

  -- These rows can be appended without failing: memory is reserved, and the index has their positions.
  pub record IsReady (number : A → ℕ) (s : Slots A) (coming : List A) : Type 0 where
    pub room : vec_len s.rows + length coming ≤ vec_capacity s.rows
    pub expected : AreExpected number s coming

  -- The row is appended: each row stays indexed, and the room for the rows after this one is kept.
  pub record AppendsRow (number : A → ℕ) (row : A) (old new : Slots A) : Type 0 where
    pub rows : rows_in new ≡ rows_in old ++ row ∷ []
    pub index : AreIndexedBy number old → AreIndexedBy number new
    pub room : (rest : List A) → IsReady number old (row ∷ rest) → IsReady number new rest

  -- The rows that are equal to this one are removed: the others stay indexed, and the room for further rows is kept.
  pub record RemovesRow (number : A → ℕ) (same : A → A → Bool) (row : A) (old new : Slots A) : Type 0 where
    pub rows : rows_in new ≡ filter (λ x. not (same x row)) (rows_in old)
    pub index : AreIndexedBy number new
    pub room : (rest : List A) → IsReady number old rest → IsReady number new rest

  -- The rows are unchanged, and the index has all positions that it had.
  pub record GrowsIndex (old new : Slots A) : Type 0 where
    pub rows : new.rows ≡ old.rows
    pub index : KeepsListedPositions old.index new.index

  -- Whether the slot has a row that is equal to this one.
  abbrev pub is_same_row : (A → A → Bool) → Option (Option A) → A → Bool
  is_same_row same (Some (Some there)) row = same there row
  is_same_row same _ row = false
