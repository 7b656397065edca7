-- The results of reading rows of cells.
use Rattle.std.specs.Prelude.{◌≡◌, List, [], ◌∷◌, ◌++◌, Bool, true, false}
use Rattle.thes_tables.specs.declared.cells.Cell.{Cell}

-- The rows are faulty: no typed rows whose cells begin with these meet the rule.
abbrev pub IsFaulty : {A : Type 0} → (List A → List (List Cell)) → (List A → Type 0) → List (List Cell) → Type 0
IsFaulty {A} cells_of Rule begun = (more : List (List Cell)) (rows : List A) → cells_of rows ≡ begun ++ more
    → Rule rows → ⊥

-- The result of reading a row: true if its cells are those of a typed row, which was added; false if the rows read so
-- far and this one are faulty.
abbrev pub ReadResult : {A : Type 0} → (List A → List (List Cell)) → (List A → Type 0) → (List A → Type 0) → List A
    → List Cell → Bool → Type 0
ReadResult {A} cells_of Has Rule rows cells true = (x : A) × (cells_of (rows ++ x ∷ []) ≡ cells_of rows ++ cells ∷ [])
    × Has (rows ++ x ∷ [])
ReadResult cells_of Has Rule rows cells false = IsFaulty cells_of Rule (cells_of rows ++ cells ∷ [])
