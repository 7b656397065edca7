-- The first bytes of a database file.
use Rattle.std.specs.Prelude.{◌==◌, ◌||◌, ◌&&◌, ◌++◌, ℕ, Bool, true, List, [], ◌∷◌, codes}

-- Whether each byte of a file's beginning equals the byte of the text at the same position, or is zero, as where
-- nothing has been written yet.
abbrev pub agrees : List ℕ → List ℕ → Bool
agrees [] text = true
agrees (found ∷ head) [] = true
agrees (found ∷ head) (wanted ∷ text) = (found == 0 || found == wanted) && agrees head text

-- Whether a file that begins with these bytes may be a database: each of the first 16 is the same as in every database,
-- or zero.
abbrev pub begins_as_database : List ℕ → Bool
begins_as_database head = agrees head (codes "SQLite format 3" ++ 0 ∷ [])
