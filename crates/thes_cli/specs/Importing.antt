-- The command `import`: the import of a posting file into the store.
use Rattle.std.specs.Prelude.{◌≡◌, ◌==◌, ◌++◌, if◌then◌else◌, ℕ, Bool, true, false, List, codes, decimal, Option}
use Rattle.std.specs.Prelude.{Result, Ok, Err}
use Rattle.thes_base.specs.Pipe.{device_of, IsFresh, KeepsSharedCallLimit}
use Rattle.thes_base.specs.declared.fault.FormFault.TheVariants.{BadShape}
use Rattle.thes_base.specs.declared.pipe.Pipe.{Pipe}
use Rattle.thes_store.specs.Storage.{StorageView}
use Rattle.thes_office.specs.Office.{OfficeView}
use Rattle.thes_import.specs.FileImport.{EndsFileImport, import_streams}
use Rattle.thes_import.specs.declared.import.ImportEnd.{ImportEnd}
use Rattle.thes_import.specs.declared.import.ImportEnd.TheVariants.{Rows, Malformed}
use Rattle.thes_import.specs.declared.import.ImportStop.{ImportStop}
use Rattle.thes_posting_files.specs.declared.report.Counts.{Counts}
use Rattle.thes_command_line.specs.Printing.{Prints, fault_line, form_line}

-- The line of an import's counts, with its line feed.
abbrev pub counts_line : Counts → List ℕ
counts_line counts =
    codes "thesaurus: " ++ decimal counts.posted ++ codes " new, " ++ decimal counts.again ++ codes " again, "
    ++ decimal counts.refused ++ codes " refused\n"

-- The counts are printed if the Boolean is true; else nothing is.
abbrev pub PrintsCounts : {E : Type 0} → (E → Option (List ℕ)) → Bool → Pipe E → Pipe E → Counts → Type 0
PrintsCounts err true old new counts = Prints err old new (counts_line counts)
PrintsCounts err false old new counts = new ≡ old

-- The end of an import: the status is 1 if a row was refused or the file is malformed, 3 after a fault, which is
-- printed, and else 0.
abbrev pub EndsImport : {E : Type 0} → (E → Option (List ℕ)) → Bool → Pipe E → Pipe E → Result ImportEnd ImportStop
    → ℕ → Type 0
EndsImport err prints_it old new (Ok (Rows counts)) status =
    PrintsCounts err prints_it old new counts × (status ≡ (if counts.refused == 0 then 0 else 1))
EndsImport err prints_it old new (Ok Malformed) status = Prints err old new (form_line BadShape) × (status ≡ 1)
EndsImport err prints_it old new (Err stopped) status = Prints err old new (fault_line stopped.fault) × (status ≡ 3)

module _ {K F W : Type 0} (view : K → StorageView)
    (given : F → Option (List ℕ)) (out : W → Option (List ℕ)) where
  -- The file was imported and its outcomes were written, or a fault stopped the import.
  abbrev pub ImportsPipe : Pipe F → OfficeView K → Pipe W → Result ImportEnd ImportStop → Pipe F → OfficeView K
      → Pipe W → Type 0
  ImportsPipe file old_office output result file' new_office output' =
      EndsFileImport given out view (import_streams file output old_office)
      (import_streams file' output' new_office) result

  -- The command `import`: the file is imported, or a fault stops the import; the result determines the status.
  pub record ImportsStore {E : Type 0} (err : E → Option (List ℕ)) (prints_it : Bool) (file : F)
      (old_office : OfficeView K) (output output' : Pipe W) (errors errors' : Pipe E) (status : ℕ)
      (new_office : OfficeView K) : Type 0 where
    pub file_pipe : Pipe F
    pub is_fresh : IsFresh file_pipe
    pub device : device_of file_pipe ≡ file
    pub file_after : Pipe F
    pub result : Result ImportEnd ImportStop
    pub imports : ImportsPipe file_pipe old_office output result file_after new_office output'
    pub calls : KeepsSharedCallLimit file_pipe file_after output output'
    pub ends : EndsImport err prints_it errors errors' result status
