-- The law of posting files: the bytes of a file determine its rows.
use Rattle.std.specs.Prelude.{◌≡◌, ℕ, List}
use Rattle.thes_posting_files.specs.PostingFile.{HasNoHeader, IsPostingFile}
use Rattle.thes_posting_files.specs.declared.csv_row.CsvRow.{CsvRow}

-- A file has at most one list of rows, and none if it has no header.
pub record HasOneListOfRows : Type 0 where
  pub rows : (bytes : List ℕ) (xs ys : List CsvRow) → IsPostingFile bytes xs → IsPostingFile bytes ys → xs ≡ ys
  pub header : (bytes : List ℕ) (xs : List CsvRow) → IsPostingFile bytes xs → ¬ HasNoHeader bytes
