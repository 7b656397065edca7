-- The effect of posting files on an office, and the exports and displays of the state that its tables encode.
use Rattle.std.specs.Prelude.{◌≡◌, ℕ, Bool, List, Option, Some, None, Result, Ok, Err, IfOk}
use Rattle.thes_base.specs.declared.fault.Fault.{Fault}
use Rattle.thes_base.specs.Resources.{IsScheme}
use Rattle.thes_base.specs.State.{State}
use Rattle.thes_store.specs.Storage.{StorageView}
use Rattle.thes_display.specs.DisplayWrites.{IsDisplay, IsSchemeRefusal}
use Rattle.thes_export.specs.Export.{IsExport, IsReadAs}
use Rattle.thes_office.specs.Office.{FaultBehaviour, OfficeView, SameTables}
use Rattle.thes_office.specs.TablesOfState.{TablesOfState}
use Rattle.thes_import.specs.Imports as importer
use Rattle.thes_posting_files.specs.declared.report.Report.{Report}
use Rattle.thes_service.specs.OfficeRequests.{office_requests}
use Rattle.thes_http.specs.ServiceBehaviour.{ServiceBehaviour}
use Rattle.thes_requests.specs.declared.request.Display.{Display}
use Rattle.thes_requests.specs.declared.handler.QueryAnswer.{QueryAnswer}
use Rattle.thes_requests.specs.declared.handler.QueryAnswer.TheVariants as answered

-- The export of a state: an N-Triples document whose only reading is the state's triples.
abbrev pub IsExportRead : List ℕ → State → List ℕ → Type 0
IsExportRead base s text = IsExport base s text × IsReadAs base s text

-- The answer to a request for a display: its text, or the refusal of a number that isn't a scheme's.
abbrev pub IsDisplayed : Display → ℕ → List ℕ → State → QueryAnswer → Type 0
IsDisplayed display scheme tag s (answered.Page page) =
    IsScheme s.resources scheme × IsDisplay display scheme tag s page
IsDisplayed display scheme tag s (answered.No refusal) = IsSchemeRefusal s.resources scheme refusal

-- The answer to an import: the lines of all outcomes, None for a malformed file, or the fault that halted it.
abbrev pub import_answer : Result (Option Report) (Fault × Report) → Result (Option (List ℕ)) Fault
import_answer (Ok (Some report)) = Ok (Some report.text.items)
import_answer (Ok None) = Ok None
import_answer (Err halted) = Err halted.0

module _ {K : Type 0} (view : K → StorageView) where
  -- If the storage is up at the end, the result has the property `IsSo` for the base and the state that the tables
  -- encode, and the tables are unchanged.
  pub record HoldsOfState {A : Type 0} (IsSo : List ℕ → State → A → Type 0) (old : OfficeView K)
      (result : Result A Fault) (new : OfficeView K) : Type 0 where
    pub fault_behaviour : FaultBehaviour view old new result
    pub same : SameTables view old new
    pub holds : IfOk result (λ a. (view new.keeper).is_up →
        (base : List ℕ) (s : State) → TablesOfState (view new.keeper).rows base s → IsSo base s a)

  -- The export of the state that the tables encode.
  abbrev pub OfficeExports : OfficeView K → Result (List ℕ) Fault → OfficeView K → Type 0
  OfficeExports old result new = HoldsOfState IsExportRead old result new

  -- A display of the state that the tables encode, or the refusal of the scheme's number.
  abbrev pub OfficeDisplays : OfficeView K → Display → ℕ → List ℕ → Result QueryAnswer Fault → OfficeView K → Type 0
  OfficeDisplays old display scheme tag result new =
      HoldsOfState (λ base. IsDisplayed display scheme tag) old result new

  -- The rows of the file were performed in order, by a run of the machine if the storage is up at the end, and the
  -- answer has their outcomes. If a fault halted the run, the answer is that fault alone.
  pub record OfficeImports (old : OfficeView K) (file : List ℕ) (result : Result (Option (List ℕ)) Fault)
      (new : OfficeView K) : Type 0 where
    pub fault_behaviour : FaultBehaviour view old new result
    pub done : Result (Option Report) (Fault × Report)
    pub imports : importer.Imports view old file done new
    pub reports : result ≡ import_answer done

  -- The behaviour of an office as a service, which may take plans.
  abbrev pub office_behaviour : Bool → ServiceBehaviour (OfficeView K)
  office_behaviour takes = record {
    requests = office_requests view takes;
    imports = OfficeImports;
    exports = OfficeExports;
    displays = OfficeDisplays;
  }
