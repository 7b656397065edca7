-- The import of a posting file from a reader, with the outcomes written to a writer, block by block.
use Rattle.std.specs.Prelude.{◌≡◌, ◌⊎◌, ◌≤◌, ◌++◌, ℕ, true, false, List, [], take, length, Option, Result, Ok, Err}
use Rattle.std.specs.Prelude.{IfErr, OnOk}
use Rattle.std.specs.Io.KnownBytes.{Appends}
use Rattle.thes_base.specs.Pipe.{AppendsPrefix, IsFresh, PaysCalls, denied_of, failed_of, written_bytes}
use Rattle.thes_base.specs.declared.fault.Fault.{Fault as OfficeFault}
use Rattle.thes_base.specs.declared.fault.Fault.TheVariants.{OutOfMemory}
use Rattle.thes_base.specs.declared.fault.PipeFault.{PipeFault}
use Rattle.thes_base.specs.declared.fault.PipeFault.TheVariants.{Write, TooLong, Fault}
use Rattle.thes_base.specs.declared.pipe.Pipe.{Pipe}
use Rattle.thes_store.specs.Storage.{StorageView}
use Rattle.thes_office.specs.Office.{FaultBehaviour, OfficeView}
use Rattle.thes_import.specs.Imports.{PerformsWith}
use Rattle.thes_posting_files.specs.Outcomes.{counts_of, no_counts, outcomes_text}
use Rattle.thes_posting_files.specs.PostingFile.{HasNoHeader, IsPostingFile}
use Rattle.thes_posting_files.specs.WholeInput.{IsInputFault, IsWhole}
use Rattle.thes_posting_files.specs.declared.csv_row.CsvRow.{CsvRow}
use Rattle.thes_import.specs.declared.import.ImportEnd.{ImportEnd}
use Rattle.thes_import.specs.declared.import.ImportEnd.TheVariants as ended
use Rattle.thes_import.specs.declared.import.ImportStop.{ImportStop}
use Rattle.thes_posting_files.specs.declared.outcome.Outcome.{Outcome}
use Rattle.thes_posting_files.specs.declared.report.Counts.{Counts}
use Rattle.thes_posting_files.specs.declared.report.Report.{Report}

-- The greatest size of a posting file, in bytes: 16 MiB.
abbrev pub file_limit : ℕ
file_limit = 16777216

-- The greatest number of rows in a block.
abbrev pub block_limit : ℕ
block_limit = 1000

module _ {W : Type 0} (contents : W → Option (List ℕ)) (old new : Pipe W) where
  -- The whole text was written.
  pub record WritesWhole (text : List ℕ) : Type 0 where
    pub appends_text : Appends (written_bytes contents old) (written_bytes contents new) text
    pub not_failed : failed_of new ≡ false

  -- The fault of a writer: `Write` if its device failed, `TooLong` if a write was denied because no budget was left.
  abbrev pub IsWriterFault : PipeFault → Type 0
  IsWriterFault Write = failed_of new ≡ true
  IsWriterFault TooLong = (failed_of new ≡ false) × (denied_of new ≡ true)
  IsWriterFault fault = ⊥

  -- A prefix of the text was written: the device failed, or a write was denied.
  abbrev pub IsReportCut : List ℕ → PipeFault → Type 0
  IsReportCut text fault =
      AppendsPrefix (written_bytes contents old) (written_bytes contents new) text × IsWriterFault fault

  -- The effect of writing a report: its text was written and cleared, and the writer is still fresh; or a prefix of it
  -- was written. The counts are unchanged, and the budget falls by the number of writes.
  pub record WritesReport (before after : ℕ) (report report' : Report) (result : Result (Unit {0}) ImportStop) :
      Type 0 where
    pub whole : OnOk result (WritesWhole report.text.items)
    pub fresh : OnOk result (IsFresh new)
    pub empty : OnOk result (report'.text.items ≡ [])
    pub stop : IfErr result (λ stopped. (stopped.counts ≡ report.counts)
        × IsReportCut report.text.items stopped.fault)
    pub counts : report'.counts ≡ report.counts
    pub calls : PaysCalls old new before after

  -- A prefix of the text of these outcomes was written. At most the outcomes of the last block are
  -- missing or cut short, or part of the heading if there are no outcomes.
  pub record WritesPartOf (outcomes : List Outcome) : Type 0 where
    pub outcomes_written : List Outcome
    pub outcomes_lost : List Outcome
    pub all : outcomes ≡ outcomes_written ++ outcomes_lost
    pub few : length outcomes_lost ≤ block_limit
    pub count : ℕ
    pub least : (outcomes ≡ []) ⊎ (length (outcomes_text outcomes_written) ≤ count)
    pub is_short : count ≤ length (outcomes_text outcomes)
    pub prefix : Appends (written_bytes contents old) (written_bytes contents new) (take count (outcomes_text outcomes))

-- The reader, the writer and the office of an import.
pub record ImportStreams (R W K : Type 0) : Type 0 where
  pub reader : Pipe R
  pub writer : Pipe W
  pub office : OfficeView K

-- The reader, the writer and the office of an import as one record.
abbrev pub import_streams : {R W K : Type 0} → Pipe R → Pipe W → OfficeView K → ImportStreams R W K
import_streams reader writer office = record { reader = reader; writer = writer; office = office }

module _ {W K : Type 0} (contents : W → Option (List ℕ)) (view : K → StorageView)
    (old new : Pipe W) (before after : OfficeView K) where
  -- The rows of the file before `others` were performed, with these outcomes.
  pub record PerformsFirst (file : List ℕ) (outcomes : List Outcome) (others : List CsvRow)
      (result : Result (Unit {0}) OfficeFault) : Type 0 where
    pub rows : List CsvRow
    pub is_file : IsPostingFile file (rows ++ others)
    pub performs : PerformsWith view before rows outcomes after
    pub fault_behaviour : FaultBehaviour view before after result

  -- A fault of the office ended the import before some row, and the outcomes of the rows before it were written.
  pub record StopsAtRow (file : List ℕ) (outcomes : List Outcome) (fault : OfficeFault) : Type 0 where
    pub others : List CsvRow
    pub some : 1 ≤ length others
    pub first : PerformsFirst file outcomes others (Err fault)
    pub writes : WritesWhole contents old new (outcomes_text outcomes)

  -- The writer failed or was denied a write within the heading or the outcomes of a block, which
  -- ended the import. If a fault of the office ended that block, some row was left.
  pub record StopsAtWrite (file : List ℕ) (outcomes : List Outcome) (fault : PipeFault) : Type 0 where
    pub others : List CsvRow
    pub result : Result (Unit {0}) OfficeFault
    pub some : IfErr result (λ f. 1 ≤ length others)
    pub first : PerformsFirst file outcomes others result
    pub cause : IsWriterFault contents old new fault
    pub writes : WritesPartOf contents old new outcomes

  -- A fault of the office or the writer ended the import, after these outcomes.
  abbrev pub StopsAfterRows : List ℕ → List Outcome → PipeFault → Type 0
  StopsAfterRows file outcomes (Fault fault) = StopsAtRow file outcomes fault
  StopsAfterRows file outcomes fault = StopsAtWrite file outcomes fault

  -- Memory ran out before anything was performed or written.
  pub record StopsAtOnce (stopped : ImportStop) : Type 0 where
    pub cause : stopped.fault ≡ Fault OutOfMemory
    pub counts : stopped.counts ≡ no_counts
    pub keeps_tables : after ≡ before
    pub unwritten : new ≡ old

  -- All rows were performed, and all outcomes were written.
  pub record ImportsAllRows (file : List ℕ) (counts : Counts) : Type 0 where
    pub outcomes : List Outcome
    pub first : PerformsFirst file outcomes [] (Ok tt)
    pub counts_are : counts ≡ counts_of outcomes
    pub writes : WritesWhole contents old new (outcomes_text outcomes)

  -- The import of a file whose bytes were read: of all its rows; of none, since it has no header; or of the rows before
  -- a fault.
  abbrev pub ImportsBytes : List ℕ → Result ImportEnd ImportStop → Type 0
  ImportsBytes file (Ok (ended.Rows counts)) = ImportsAllRows file counts
  ImportsBytes file (Ok ended.Malformed) = HasNoHeader file × (after ≡ before) × (new ≡ old)
  ImportsBytes file (Err stopped) =
      StopsAtOnce stopped
      ⊎ ((outcomes : List Outcome) × (stopped.counts ≡ counts_of outcomes) × StopsAfterRows file outcomes stopped.fault)

module _ {R W K : Type 0} (remaining : R → Option (List ℕ)) (contents : W → Option (List ℕ))
    (view : K → StorageView) (old new : ImportStreams R W K) where
  -- The whole file was read, its import ended or a fault halted it, and the outcomes, or a prefix
  -- of them if the writer failed, were written. Nothing was written if the file has no header, or
  -- if memory ran out before the heading.
  pub record ImportsFile (result : Result ImportEnd ImportStop) : Type 0 where
    pub file : List ℕ
    pub whole : IsWhole remaining file_limit old.reader new.reader file
    pub imports : ImportsBytes contents view old.writer new.writer old.office new.office file result

  -- The file wasn't read to its end, so nothing was performed or written.
  pub record ReadsNone (stopped : ImportStop) : Type 0 where
    pub cause : IsInputFault remaining file_limit old.reader new.reader stopped.fault
    pub counts : stopped.counts ≡ no_counts
    pub office : new.office ≡ old.office
    pub writer : new.writer ≡ old.writer

  -- The import stopped while it read the file, or after it had read all of it.
  abbrev pub StopsImport : ImportStop → Type 0
  StopsImport stopped = ReadsNone stopped ⊎ ImportsFile (Err stopped)

  -- The end of an import: the whole file was read, its rows or those before a fault were performed, and the outcomes,
  -- or a prefix of them if the writer failed, were written; or the file wasn't read, and nothing was performed.
  abbrev pub EndsFileImport : Result ImportEnd ImportStop → Type 0
  EndsFileImport (Ok ended) = ImportsFile (Ok ended)
  EndsFileImport (Err stopped) = StopsImport stopped
