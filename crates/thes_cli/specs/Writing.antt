-- The effect of a command that writes, in some form, the state that the tables of a store encode.
use Rattle.std.specs.Prelude.{◌≡◌, ℕ, List, Result, Ok, Err}
use Rattle.thes_base.specs.Pipe.{KeepsCallLimit}
use Rattle.thes_base.specs.State.{State}
use Rattle.thes_base.specs.declared.fault.Fault.{Fault}
use Rattle.thes_base.specs.declared.fault.PipeFault.{PipeFault}
use Rattle.thes_base.specs.declared.fault.PipeFault.TheVariants as pipe
use Rattle.thes_base.specs.declared.pipe.Pipe.{Pipe}
use Rattle.thes_tables.specs.Cells.{Raw}
use Rattle.thes_store.specs.Storage.{StorageView}
use Rattle.thes_office.specs.Office.{FaultBehaviour, OfficeView, SameTables}
use Rattle.thes_office.specs.TablesOfState.{TablesOfState}

-- The property `P` holds for each base and state that the rows encode.
abbrev pub InStore : Raw → (List ℕ → State → Type 0) → Type 0
InStore raw P = (base : List ℕ) (s : State) → TablesOfState raw base s → P base s

module _ {K W A : Type 0} (view : K → StorageView)
    (Writes : List ℕ → State → Pipe W → Pipe W → Result A PipeFault → Type 0) where
  -- The output is as `Writes` says for the base and the state that the tables encode; or nothing was written, since the
  -- tables couldn't be loaded.
  abbrev pub WritesIfReady : OfficeView K → Pipe W → Pipe W → Result (Unit {0}) Fault → Result A PipeFault → Type 0
  WritesIfReady new_office output output' (Ok ready) result =
      ((view new_office.keeper).is_up → InStore (view new_office.keeper).rows
      (λ base s. Writes base s output output' result))
      × KeepsCallLimit output output'
  WritesIfReady new_office output output' (Err fault) result = (result ≡ Err (pipe.Fault fault)) × (output' ≡ output)

  -- The state that the tables encode was written, or nothing was, and the tables are unchanged.
  pub record WritesState (old_office : OfficeView K) (output : Pipe W) (result : Result A PipeFault)
      (new_office : OfficeView K) (output' : Pipe W) : Type 0 where
    pub ready : Result (Unit {0}) Fault
    pub fault_behaviour : FaultBehaviour view old_office new_office ready
    pub same : SameTables view old_office new_office
    pub writes : WritesIfReady new_office output output' ready result
