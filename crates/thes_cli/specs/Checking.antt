-- The command `check`: the sizes of a store.
use Rattle.std.specs.Prelude.{◌≡◌, ◌⊎◌, ◌++◌, ℕ, List, length, codes, decimal, Option, Result, Ok, Err, IfOk}
use Rattle.std.specs.FinSet as set
use Rattle.thes_base.specs.Postings.{accepted_count, withdrawn_count, move_count}
use Rattle.thes_base.specs.State.{State}
use Rattle.thes_base.specs.declared.fault.Fault.{Fault}
use Rattle.thes_base.specs.declared.fault.Fault.TheVariants.{OutOfMemory}
use Rattle.thes_base.specs.declared.fault.PipeFault.TheVariants as pipe
use Rattle.thes_base.specs.declared.pipe.Pipe.{Pipe}
use Rattle.thes_store.specs.Storage.{StorageView}
use Rattle.thes_core.specs.declared.reading.Sizes.{Sizes}
use Rattle.thes_office.specs.QueryFrames.{InStateOfTables}
use Rattle.thes_office.specs.Office.{FaultBehaviour, OfficeView, SameTables}
use Rattle.thes_command_line.specs.Printing.{PrintsError, PrintsText, fault_line}

-- The numbers of resources, labels, links, postings and moves in a state.
abbrev pub sizes_of : State → Sizes
sizes_of s = record {
  resources = length s.resources;
  labels = set.len s.labels;
  links = set.len s.links;
  accepted = accepted_count s.histories;
  withdrawn = withdrawn_count s.histories;
  moves = move_count s.histories;
}

-- The sizes of the empty state, all 0.
abbrev pub no_sizes : Sizes
no_sizes = record { resources = 0; labels = 0; links = 0; accepted = 0; withdrawn = 0; moves = 0 }

-- The name of a size of the store, such as ` labels=`, and the size in decimal.
abbrev pub size_text : List ℕ → ℕ → List ℕ
size_text name size = name ++ decimal size

-- The line of a store's sizes, with its line feed.
abbrev pub sizes_line : Sizes → List ℕ
sizes_line sizes =
    size_text (codes "ok resources=") sizes.resources ++ size_text (codes " labels=") sizes.labels
    ++ size_text (codes " links=") sizes.links ++ size_text (codes " accepted=") sizes.accepted
    ++ size_text (codes " withdrawn=") sizes.withdrawn ++ size_text (codes " moves=") sizes.moves ++ codes "\n"

module _ {W E : Type 0} (out : W → Option (List ℕ)) (err : E → Option (List ℕ))
    (output output' : Pipe W) (errors errors' : Pipe E) where
  -- The line of the sizes is printed, or that of a fault.
  abbrev pub ReportsSizes : Result Sizes Fault → ℕ → Type 0
  ReportsSizes (Ok sizes) status =
      PrintsText out err output output' errors errors' (sizes_line sizes) status
      ⊎ PrintsError out err output output' errors errors' (fault_line (pipe.Fault OutOfMemory)) 3 status
  ReportsSizes (Err f) status = PrintsError out err output output' errors errors' (fault_line (pipe.Fault f)) 3 status

module _ {K : Type 0} (view : K → StorageView) where
  -- The sizes are those of the state that the tables encode, and the tables are unchanged.
  pub record FindsSizes (old_office : OfficeView K) (result : Result Sizes Fault) (new_office : OfficeView K) : Type
      0 where
    pub fault_behaviour : FaultBehaviour view old_office new_office result
    pub same : SameTables view old_office new_office
    pub sizes : IfOk result (λ z. (view new_office.keeper).is_up → InStateOfTables (view new_office.keeper).rows
        (λ s. z ≡ sizes_of s))

  -- The command `check`: the sizes of the store are printed, or a fault.
  pub record ChecksStore {W E : Type 0} (out : W → Option (List ℕ)) (err : E → Option (List ℕ))
      (old_office : OfficeView K) (output output' : Pipe W) (errors errors' : Pipe E) (status : ℕ)
      (new_office : OfficeView K) : Type 0 where
    pub result : Result Sizes Fault
    pub finds : FindsSizes old_office result new_office
    pub reports : ReportsSizes out err output output' errors errors' result status
