-- The effect of each task on a store, and the report of a store that can't be opened.
use mathlib.Core.Logic.{inl, inr}
use Rattle.std.specs.Prelude.{◌≡◌, ◌⊎◌, ℕ, List, Option}
use Rattle.thes_base.specs.declared.data.Limits.{Limits}
use Rattle.thes_base.specs.declared.fault.Fault.{Fault}
use Rattle.thes_base.specs.declared.pipe.Pipe.{Pipe}
use Rattle.thes_tables.specs.Cells.{Raw}
use Rattle.thes_sqlite.specs.declared.cause.Cause.{Cause}
use Rattle.thes_store.specs.Storage.{StorageView}
use Rattle.thes_office.specs.FoundStates.{FindsLegalState, IsFaultOfFound}
use Rattle.thes_office.specs.Office.{OfficeView}
use Rattle.thes_office.specs.Opening.{IsOpened, IsUnopened}
use Rattle.thes_http.specs.ConnectionCounts.{ConnectionCounts}
use Rattle.thes_cli.specs.Checking.{ChecksStore}
use Rattle.thes_cli.specs.Displaying.{DisplaysStore}
use Rattle.thes_command_line.specs.Printing.{Prints, fault_lines}
use Rattle.thes_cli.specs.Exporting.{ExportsStore}
use Rattle.thes_cli.specs.Importing.{ImportsStore}
use Rattle.thes_cli.specs.Scripting.{AnswersScript}
use Rattle.thes_cli.specs.Serving.{ServesStore}
use Rattle.thes_cli.specs.declared.streams.Streams.{Streams}
use Rattle.thes_command_line.specs.declared.trouble.StoreTrouble.TheVariants.{Unreadable}
use Rattle.thes_jobs.specs.Trouble.{trouble_of}
use Rattle.thes_jobs.specs.declared.work.OutputWork.{OutputWork}
use Rattle.thes_jobs.specs.declared.work.OutputWork.TheVariants.{Check, Export, Display, Import, Serve}
use Rattle.thes_jobs.specs.declared.work.Work.{Work}
use Rattle.thes_jobs.specs.declared.work.Work.TheVariants.{Script, Output}

module _ {K F W E : Type 0} (view : K → StorageView)
    (given : F → Option (List ℕ)) (out : W → Option (List ℕ)) (err : E → Option (List ℕ))
    (connections : ConnectionCounts) where
  -- The effect over an open store of work that doesn't read standard input, by its command; `connections` counts the
  -- connections that were served.
  abbrev pub DoesOutputWork : {L : Type 0} → OutputWork F L → OfficeView K → Pipe W → Pipe W → Pipe E → Pipe E → ℕ
      → OfficeView K → Type 0
  DoesOutputWork Check old_office output output' errors errors' status new_office =
      ChecksStore view out err old_office output output' errors errors' status new_office
  DoesOutputWork Export old_office output output' errors errors' status new_office =
      ExportsStore view out err old_office output output' errors errors' status new_office
  DoesOutputWork (Display display shown) old_office output output' errors errors' status new_office =
      DisplaysStore view out display shown.scheme shown.lang err old_office output output' errors errors' status
      new_office
  DoesOutputWork (Import file prints_it) old_office output output' errors errors' status new_office =
      ImportsStore view given out err prints_it file old_office output output' errors errors' status new_office
  DoesOutputWork (Serve listening) old_office output output' errors errors' status new_office =
      ServesStore view err out listening.plans listening.port listening.count old_office output output' errors errors'
      connections status new_office

module _ {K F R W E : Type 0} (view : K → StorageView)
    (given : F → Option (List ℕ)) (remaining : R → Option (List ℕ)) (out : W → Option (List ℕ))
    (err : E → Option (List ℕ)) where
  -- The effect of work over an open store; only a script reads standard input.
  abbrev pub DoesWork : {L : Type 0} → Work F L → OfficeView K → Streams R W E → ℕ → OfficeView K → Streams R W E
      → Type 0
  DoesWork (Script options) old_office old status new_office new =
      AnswersScript view remaining out err options.plans old_office old status new_office new
  DoesWork (Output work) old_office old status new_office new =
      (new.input ≡ old.input)
      × DoesOutputWork view given out err new.connections work old_office old.output new.output old.errors new.errors
      status new_office

  -- The store was opened, the work was done, and the storage is returned.
  pub record WorksOpened {L : Type 0} (work : Work F L) (limits : Limits) (keeper : K) (old : Streams R W E)
      (status : ℕ) (back : K) (new : Streams R W E) : Type 0 where
    pub old_office : OfficeView K
    pub opens : IsOpened view limits keeper old_office
    pub new_office : OfficeView K
    pub does : DoesWork work old_office old status new_office new
    pub back_is : back ≡ new_office.keeper

  -- The store couldn't be opened, the fault is printed with the reason that its cause gives, and the status is 3.
  pub record ReportsUnopened (file : Option (List ℕ)) (keeper : K) (old : Streams R W E) (status : ℕ)
      (back : K) (new : Streams R W E) : Type 0 where
    pub fault : Fault
    pub cause : Cause
    pub fails_to_open : IsUnopened view keeper fault back
    pub input : new.input ≡ old.input
    pub output : new.output ≡ old.output
    pub prints_it : Prints err old.errors new.errors (fault_lines file (trouble_of cause Unreadable) fault)
    pub status_is : status ≡ 3

module _ {K F R W E : Type 0} (view : K → StorageView) (is_open : K → Type 0) (finds : K → Raw → Type 0)
    (given : F → Option (List ℕ)) (remaining : R → Option (List ℕ)) (out : W → Option (List ℕ))
    (err : E → Option (List ℕ)) where
  -- If the store was opened, the load at the start found rows that encode a legal state, in tables that may have held
  -- anything; else the fault is OutOfMemory, Store, or the verdict on the rows found.
  abbrev pub FindsAtStart : {A B : Type 0} → A ⊎ B → (A → K) → (B → Fault) → K → K → Type 0
  FindsAtStart (inl opened) storage fault start back = is_open (storage opened) → FindsLegalState (finds start)
  FindsAtStart (inr unopened) storage fault start back = is_open back → IsFaultOfFound (finds start) (fault unopened)

  -- The work over a storage, or the fault of opening its store, and the rows that the opening found.
  abbrev pub WorksOverKeeper : {L : Type 0} → Work F L → Option (List ℕ) → Limits → K → Streams R W E → ℕ → K
      → Streams R W E → Type 0
  WorksOverKeeper work file limits start old status back new =
      (works : WorksOpened view given remaining out err work limits start old status back new
      ⊎ ReportsUnopened view given remaining out err file start old status back new)
      × FindsAtStart works (λ opened. opened.old_office.keeper) (λ unopened. unopened.fault) start back
