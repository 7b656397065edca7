-- The law of imports: a file and the state before determine the report, and the state after it.
use Rattle.std.specs.Prelude.{◌≡◌, ℕ, List, Option, Some, None, Ok}
use Rattle.thes_base.specs.Refusals.{AreLimits}
use Rattle.thes_base.specs.State.{State}
use Rattle.thes_store.specs.Storage.{StorageView}
use Rattle.thes_office.specs.Office.{OfficeView}
use Rattle.thes_office.specs.TablesOfState.{TablesOfState, EncodeOneState}
use Rattle.thes_import.specs.Imports.{Imports}
use Rattle.thes_posting_files.specs.declared.report.Report.{Report}

-- Both reports have the same text and counts, or both imports found no header.
abbrev pub ReportSame : Option Report → Option Report → Type 0
ReportSame (Some report) (Some other) = (report.text.items ≡ other.text.items) × (report.counts ≡ other.counts)
ReportSame None None = Unit {0}
ReportSame a b = ⊥

module _ {K : Type 0} (view : K → StorageView) where
  -- The import of the file by an office whose tables encode the state, and whose storage is up at the end.
  pub record ImportsInState (base : List ℕ) (s : State) (old : OfficeView K) (file : List ℕ) (done : Option Report)
      (new : OfficeView K) : Type 0 where
    pub few : AreLimits old.limits
    pub shows : TablesOfState (view old.keeper).rows base s
    pub imports : Imports view old file (Ok done) new
    pub is_up : (view new.keeper).is_up

-- Two offices with the same limits, whose tables encode the same state, make the same report of a file, and their
-- tables encode the same state afterwards, unless a fault halts an import.
abbrev pub HasOneImport : {K L : Type 0} → (K → StorageView) → (L → StorageView) → Type 0
HasOneImport {K} {L} view other =
    (base : List ℕ) (s : State) (file : List ℕ) (old new : OfficeView K) (old' new' : OfficeView L)
    (a b : Option Report)
    → old'.limits ≡ old.limits → ImportsInState view base s old file a new
    → ImportsInState other base s old' file b new'
    → ReportSame a b × EncodeOneState base (view new.keeper).rows (other new'.keeper).rows
