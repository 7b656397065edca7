-- Posting files: CSV in UTF-8 (RFC 4180), with a header and then a posting in each record.
use Rattle.std.specs.Prelude.{◌≡◌, ℕ, List, [], ◌∷◌, codes, IsUtf8, Result, Ok, Err}
use Rattle.std.specs.List.{AllZip}
use Rattle.csv.specs.Reading.{AreRecords, default_config, strip_bom}
use Rattle.csv.specs.declared.parser.State.TheVariants as state
use Rattle.thes_base.specs.declared.fault.FormFault.{FormFault}
use Rattle.thes_base.specs.declared.fault.FormFault.TheVariants as bad
use Rattle.thes_base.specs.declared.fault.ReadStop.{ReadStop}
use Rattle.thes_base.specs.declared.fault.ReadStop.TheVariants.{Form, OutOfMemory}
use Rattle.thes_base.specs.Forms.{IsKey, IsNumber, IsNumeral, IsRecordName}
use Rattle.thes_posting_files.specs.declared.csv_row.CsvRow.{CsvRow}
use Rattle.thes_posting_files.specs.declared.csv_row.CsvRow.TheVariants.{Post, Bad}

-- The fields of the header, in order.
unfoldable pub header : List (List ℕ)
header = codes "key" ∷ codes "record" ∷ codes "concept" ∷ []

-- The field is UTF-8, and its text has this form.
pub record IsField (Is : List ℕ → Type 0) (bytes : List ℕ) : Type 0 where
  pub text : IsUtf8 bytes
  pub form : Is bytes

-- The field is the decimal numeral of a resource's number.
abbrev pub HasNumber : List ℕ → Type 0
HasNumber bytes = IsField (λ text. (n : ℕ) × IsNumber n × IsNumeral text n) bytes

-- The result of reading a field as a resource's number: the number, or `BadNumber` if the field isn't the decimal
-- numeral of a resource's number.
abbrev pub ReadsField : List ℕ → Result ℕ FormFault → Type 0
ReadsField bytes (Ok n) = IsField (λ text. IsNumeral text n) bytes × IsNumber n
ReadsField bytes (Err fault) = (fault ≡ bad.BadNumber) × ¬ HasNumber bytes

-- The row of three fields: a posting, or the fault of the first field that lacks its form.
abbrev pub IsPostingRow : (key rec concept : List ℕ) → CsvRow → Type 0
IsPostingRow key rec concept (Post k r n) =
    IsField IsKey key × (k ≡ key)
    × IsField IsRecordName rec × (r ≡ rec)
    × IsField (λ text. IsNumeral text n) concept × IsNumber n
IsPostingRow key rec concept (Bad bad.BadKey) = ¬ IsField IsKey key
IsPostingRow key rec concept (Bad bad.BadRecord) = IsField IsKey key × ¬ IsField IsRecordName rec
IsPostingRow key rec concept (Bad bad.BadNumber) = IsField IsKey key × IsField IsRecordName rec × ¬ HasNumber concept
IsPostingRow key rec concept (Bad _) = ⊥

-- The row of a record; a record without exactly three fields is `BadShape`.
abbrev pub IsCsvRow : List (List ℕ) → CsvRow → Type 0
IsCsvRow (key ∷ rec ∷ concept ∷ []) row = IsPostingRow key rec concept row
IsCsvRow _ row = row ≡ Bad bad.BadShape

-- The records of a file by RFC 4180; a byte order mark at the start, and empty lines, are skipped.
abbrev pub HasRecords : List ℕ → List (List (List ℕ)) → Type 0
HasRecords bytes records = AreRecords default_config state.StartRecord (strip_bom bytes) records

-- The first record is the header.
abbrev pub BeginsWithHeader : List (List (List ℕ)) → Type 0
BeginsWithHeader records = (rest : List (List (List ℕ))) × (records ≡ header ∷ rest)

-- The file has a header, and then records with these rows.
pub record IsPostingFile (bytes : List ℕ) (rows : List CsvRow) : Type 0 where
  pub records : List (List (List ℕ))
  pub read : HasRecords bytes (header ∷ records)
  pub each : AllZip IsCsvRow records rows

-- The file is CSV without a header.
pub record HasNoHeader (bytes : List ℕ) : Type 0 where
  pub records : List (List (List ℕ))
  pub read : HasRecords bytes records
  pub headless : ¬ BeginsWithHeader records

-- The reason why a posting file can't be opened: it has no header, or memory ran out.
abbrev pub IsFileReadStop : List ℕ → ReadStop → Type 0
IsFileReadStop bytes (Form fault) = (fault ≡ bad.BadShape) × HasNoHeader bytes
IsFileReadStop bytes OutOfMemory = Unit {0}
