-- The effect of an import on the tables, and its report.
use Rattle.std.specs.Prelude.{◌≡◌, ◌⊎◌, ◌<◌, ◌≤◌, ◌++◌, ℕ, List, length, Option, Some, None, Result, Ok, Err}
use Rattle.std.specs.List.{AllByRecursion, AllZip}
use Rattle.thes_base.specs.declared.data.Limits.{Limits}
use Rattle.thes_base.specs.declared.fault.Fault.{Fault}
use Rattle.thes_base.specs.declared.fault.Fault.TheVariants as faults
use Rattle.thes_tables.specs.Cells.{Raw}
use Rattle.thes_store.specs.Storage.{StorageView}
use Rattle.thes_posting_files.specs.PostingFile.{HasNoHeader, IsPostingFile}
use Rattle.thes_posting_files.specs.declared.csv_row.CsvRow.{CsvRow}
use Rattle.thes_office.specs.Office.{ChangesNothing, TablesAfterRun, OfficeView}
use Rattle.thes_posting_files.specs.Outcomes.{AddsOutcomes, IsBlankReport, IsOutcome, ReportsOutcomes, answers_of, posts_of}
use Rattle.thes_posting_files.specs.Outcomes.{row_count}
use Rattle.thes_posting_files.specs.declared.outcome.Outcome.{Outcome}
use Rattle.thes_posting_files.specs.RowReading.{HasReadRows}
use Rattle.thes_posting_files.specs.declared.reading.RowReader.{RowReader}
use Rattle.thes_posting_files.specs.declared.report.Counts.{Counts}
use Rattle.thes_posting_files.specs.declared.report.Report.{Report}

-- A run of the machine over the requests of the rows has the answers in these outcomes, and leads
-- to the new tables. The tables are unchanged if each answer is a refusal or the number of an earlier posting.
pub record PerformsRows (limits : Limits) (old : Raw) (rows : List CsvRow) (outcomes : List Outcome)
    (new : Raw) : Type 0 where
  pub goes_on : TablesAfterRun limits old (posts_of rows) (answers_of outcomes) new
  pub same : AllByRecursion ChangesNothing (answers_of outcomes) → new ≡ old

-- As many rows are counted as the reader has read of its file.
pub record CountsRowsRead (reader : RowReader) (counts : Counts) : Type 0 where
  pub file : List ℕ
  pub rows : List CsvRow
  pub first : List CsvRow
  pub reads : HasReadRows file rows first reader
  pub count_is : row_count counts ≡ length first

module _ {K : Type 0} (view : K → StorageView) where
  -- These rows were performed, with these outcomes.
  pub record PerformsWith (old : OfficeView K) (rows : List CsvRow) (outcomes : List Outcome) (new : OfficeView K) :
      Type 0 where
    pub each : AllZip IsOutcome rows outcomes
    pub performs : (view new.keeper).is_up → PerformsRows old.limits (view old.keeper).rows rows outcomes
        (view new.keeper).rows

  -- The next block of rows was read, performed and reported.
  pub record ReportsBlock (old : OfficeView K) (reader : RowReader) (report report' : Report) (reader' : RowReader)
      (new : OfficeView K) : Type 0 where
    pub rows : List CsvRow
    pub outcomes : List Outcome
    pub reads : (bytes : List ℕ) (all first : List CsvRow) → HasReadRows bytes all first reader
        → HasReadRows bytes all (first ++ rows) reader'
    pub some : 0 < length rows
    pub few : length rows ≤ 1000
    pub performs : PerformsWith old rows outcomes new
    pub reports : AddsOutcomes outcomes report report'

  -- A fault ended the import before some row of the file; the rows of the block before that row
  -- were performed and reported.
  pub record StopsInBlock (old : OfficeView K) (reader : RowReader) (report report' : Report)
      (new : OfficeView K) : Type 0 where
    pub rows : List CsvRow
    pub outcomes : List Outcome
    pub leaves : (bytes : List ℕ) (all first : List CsvRow) → HasReadRows bytes all first reader
        → (others : List CsvRow) × IsPostingFile bytes ((first ++ rows) ++ others) × (0 < length others)
    pub few : length rows ≤ 1000
    pub performs : PerformsWith old rows outcomes new
    pub reports : AddsOutcomes outcomes report report'

  -- The next block of rows was performed, or a fault ended the import before some row.
  abbrev pub ImportsBlock : OfficeView K → RowReader → Report → Result (Unit {0}) Fault → Report → RowReader
      → OfficeView K → Type 0
  ImportsBlock old reader report (Ok done) report' reader' new = ReportsBlock old reader report report' reader' new
  ImportsBlock old reader report (Err fault) report' reader' new = StopsInBlock old reader report report' new

  -- Exactly these rows were performed, and the report has their outcomes.
  pub record ImportsRows (old : OfficeView K) (rows : List CsvRow) (report : Report) (new : OfficeView K) : Type 0 where
    pub outcomes : List Outcome
    pub each : AllZip IsOutcome rows outcomes
    pub reports : ReportsOutcomes outcomes report
    pub performs : (view new.keeper).is_up → PerformsRows old.limits (view old.keeper).rows rows outcomes
        (view new.keeper).rows

  -- A proper prefix of the rows was performed and reported.
  pub record ImportsSome (old : OfficeView K) (rows : List CsvRow) (report : Report) (new : OfficeView K) : Type 0 where
    pub first_rows : List CsvRow
    pub other_rows : List CsvRow
    pub all : rows ≡ first_rows ++ other_rows
    pub some : 0 < length other_rows
    pub imports : ImportsRows old first_rows report new

  -- All rows of the file were performed, or some of them before a fault, or none if the file has no
  -- header.
  abbrev pub Imports : OfficeView K → List ℕ → Result (Option Report) (Fault × Report) → OfficeView K → Type 0
  Imports old file (Ok (Some report)) new =
      (rows : List CsvRow) × IsPostingFile file rows × ImportsRows old rows report new
  Imports old file (Ok None) new = HasNoHeader file × (new ≡ old)
  Imports old file (Err halted) new =
      ((halted.0 ≡ faults.OutOfMemory) × IsBlankReport halted.1 × (new ≡ old))
      ⊎ ((rows : List CsvRow) × IsPostingFile file rows × ImportsSome old rows halted.1 new)

-- The result of an import, with its fault but without reports.
abbrev pub fault_in : {A B : Type 0} → Result A (Fault × B) → Result (Unit {0}) Fault
fault_in (Ok x) = Ok tt
fault_in (Err halted) = Err halted.0
