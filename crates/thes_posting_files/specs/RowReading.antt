-- A posting file that is read row by row, and one record ahead.
use Rattle.std.specs.Prelude.{◌≡◌, ◌<◌, ◌≤◌, ◌^◌, ◌++◌, ℕ, List, [], ◌∷◌, length, map, true, false}
use Rattle.std.specs.List.{AllZip}
use Rattle.csv.specs.Records.{fields_of}
use Rattle.thes_posting_files.specs.PostingFile.{HasRecords, IsCsvRow, IsPostingFile, header}
use Rattle.thes_posting_files.specs.RecordReading.{HasReadTo}
use Rattle.thes_posting_files.specs.Outcomes.{fault_of_row, posts_of}
use Rattle.thes_posting_files.specs.declared.block.Block.{Block}
use Rattle.thes_posting_files.specs.declared.csv_row.CsvRow.{CsvRow}
use Rattle.thes_posting_files.specs.declared.reading.RowReader.{RowReader}

-- The reader has read these records of the text and also the next one; if there is no next one, these are all records.
pub record HasReadAhead (bytes : List ℕ) (records : List (List (List ℕ))) (reader : RowReader) : Type 0 where
  pub more : reader.has_more ≡ true → HasReadTo bytes (records ++ fields_of reader.next ∷ []) reader.records
  pub none : reader.has_more ≡ false → HasRecords bytes records

-- The posting file has the rows `rows`, of which the first ones, `first`, were read, and one record ahead.
pub record HasReadRows (bytes : List ℕ) (rows first : List CsvRow) (reader : RowReader) : Type 0 where
  pub file : IsPostingFile bytes rows
  pub fits : length rows < 2 ^ 64
  pub records : List (List (List ℕ))
  pub each : AllZip IsCsvRow records first
  pub ahead : HasReadAhead bytes (header ∷ records) reader

-- The next rows were read: at most 1,000, and at least one if any is left. The block has their requests and faults.
pub record ReadsBlock (old new : RowReader) (block : Block) : Type 0 where
  pub rows : List CsvRow
  pub reads : (bytes : List ℕ) (all first : List CsvRow) → HasReadRows bytes all first old
      → HasReadRows bytes all (first ++ rows) new
  pub some : old.has_more ≡ true → 0 < length rows
  pub few : length rows ≤ 1000
  pub posts : block.posts.items ≡ posts_of rows
  pub faults : block.faults.items ≡ map fault_of_row rows
