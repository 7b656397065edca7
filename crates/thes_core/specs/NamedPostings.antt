-- The rows of the postings that a request lists.
use Rattle.std.specs.Prelude.{List, [], ◌∷◌, Option, None}
use Rattle.thes_tables.specs.declared.rows.PostingRow.{PostingRow}

-- The row of the first posting listed; None if none is listed, or if that posting is unknown.
abbrev pub first_named_posting : List (Option PostingRow) → Option PostingRow
first_named_posting [] = None
first_named_posting (row ∷ rows) = row
