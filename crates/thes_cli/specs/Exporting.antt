-- The command `export`: the export of the store as N-Triples.
use Rattle.std.specs.Prelude.{◌≡◌, ℕ, List, Option, Result, Ok, Err, MatchResult}
use Rattle.thes_base.specs.State.{State}
use Rattle.thes_base.specs.declared.fault.PipeFault.{PipeFault}
use Rattle.thes_base.specs.declared.pipe.Pipe.{Pipe}
use Rattle.thes_store.specs.Storage.{StorageView}
use Rattle.thes_office.specs.Office.{OfficeView}
use Rattle.thes_export.specs.ExportWrites.{IsExportWritten, IsExportStopped}
use Rattle.thes_command_line.specs.Printing.{Prints, fault_line}
use Rattle.thes_cli.specs.Writing.{WritesState}

-- The end of an export: status 0 if it was written; else the fault is printed, and the status is 3.
abbrev pub EndsExport : {E : Type 0} → (E → Option (List ℕ)) → Pipe E → Pipe E → Result (Unit {0}) PipeFault → ℕ
    → Type 0
EndsExport err old new (Ok done) status = (new ≡ old) × (status ≡ 0)
EndsExport err old new (Err fault) status = Prints err old new (fault_line fault) × (status ≡ 3)

module _ {W : Type 0} (out : W → Option (List ℕ)) where
  -- The export of a state was written, or a prefix of it.
  abbrev pub WritesExportOf : List ℕ → State → Pipe W → Pipe W → Result (Unit {0}) PipeFault → Type 0
  WritesExportOf base s output output' result =
      MatchResult result (λ done. IsExportWritten out base s output output') (IsExportStopped out base s output output')

module _ {K W : Type 0} (view : K → StorageView) (out : W → Option (List ℕ)) where
  -- The export of the state that the tables encode was written or stopped, and the tables are unchanged.
  abbrev pub WritesExport : OfficeView K → Pipe W → Result (Unit {0}) PipeFault → OfficeView K → Pipe W → Type 0
  WritesExport old_office output result new_office output' =
      WritesState view (WritesExportOf out) old_office output result new_office output'

  -- The command `export`: the export is written or stopped, and the result determines the status.
  pub record ExportsStore {E : Type 0} (err : E → Option (List ℕ))
      (old_office : OfficeView K) (output output' : Pipe W) (errors errors' : Pipe E) (status : ℕ)
      (new_office : OfficeView K) : Type 0 where
    pub result : Result (Unit {0}) PipeFault
    pub writes : WritesExport old_office output result new_office output'
    pub ends : EndsExport err errors errors' result status
