-- A posting file that is read record by record.
use Rattle.std.specs.Prelude.{◌≡◌, ◌<◌, ◌+◌, ◌++◌, ℕ, Bool, true, false, List, [], ◌∷◌, length, Option, None, Some}
use Rattle.std.specs.Prelude.{if◌then◌else◌}
use Rattle.std.specs.Borrow.{Bor}
use Rattle.csv.specs.Machine.{ends_at_end}
use Rattle.csv.specs.Reading.{Reached, Ready, default_config, has_failed, is_flexible, source_of, strip_bom}
use Rattle.csv.specs.declared.parser.State.{State}
use Rattle.csv.specs.declared.parser.State.TheVariants as state
use Rattle.csv.specs.declared.reader.Reader.{Reader}
use Rattle.csv.specs.declared.reader.Trim.TheVariants as trim
use Rattle.thes_posting_files.specs.PostingFile.{HasNoHeader, HasRecords, header}

-- The reader has read these records of the text, each of any number of fields, and the bytes `unread` are left.
pub record HasReadTo (bytes : List ℕ) (records : List (List (List ℕ))) (reader : Reader (Bor (List ℕ))) : Type 0 where
  pub plain : reader.trim ≡ trim.None
  pub ready : Ready reader
  pub config : reader.config ≡ default_config
  pub any_width : is_flexible reader ≡ true
  pub unread : List ℕ
  pub source : source_of (λ s. Some s.now) reader ≡ Some unread
  pub reaches : Reached default_config state.StartRecord (strip_bom bytes) records reader.state unread

-- An upper bound on the number of records in the bytes left, which falls with each record.
abbrev pub most_records : State → Option (List ℕ) → ℕ
most_records s None = 0
most_records s (Some text) = length text + length text + (if ends_at_end s then 1 else 0)

-- An upper bound on the number of records left to the reader.
abbrev pub most_left : Reader (Bor (List ℕ)) → ℕ
most_left reader = most_records reader.state (source_of (λ s. Some s.now) reader)

-- One more record was read, or none is left.
pub record TakesRecord (old new : Reader (Bor (List ℕ))) (fields : List (List ℕ)) (found : Bool) : Type 0 where
  pub more : found ≡ true → (bytes : List ℕ) (records : List (List (List ℕ))) → HasReadTo bytes records old
      → HasReadTo bytes (records ++ fields ∷ []) new × (most_left new < most_left old)
  pub none : found ≡ false → (bytes : List ℕ) (records : List (List (List ℕ))) → HasReadTo bytes records old
      → HasRecords bytes records

-- Memory ran out, so that the reader reads no further. No text causes this: any bytes are records of CSV.
abbrev pub StopsReading : Reader (Bor (List ℕ)) → Reader (Bor (List ℕ)) → Type 0
StopsReading old new =
    (bytes : List ℕ) (records : List (List (List ℕ))) → HasReadTo bytes records old → has_failed new ≡ true

-- The header was read, or the file has none.
pub record TakesHeader (old new : Reader (Bor (List ℕ))) (found : Bool) : Type 0 where
  pub more : found ≡ true → (bytes : List ℕ) → HasReadTo bytes [] old
      → HasReadTo bytes (header ∷ []) new × (most_left new < most_left old)
  pub none : found ≡ false → (bytes : List ℕ) → HasReadTo bytes [] old → HasNoHeader bytes
