-- Work over a store in a database, and over a new store in memory.
use mathlib.Core.Logic.{inl, inr}
use Rattle.std.specs.Prelude.{◌≡◌, ◌⊎◌, ℕ, List, Option, None, Some, false, IfSome, IsTrue, string_bytes}
use Rattle.sqlite.specs.Effect.{Database}
use Rattle.sqlite.specs.Held.{Held, state}
use Rattle.sqlite.specs.Schema.{Schema}
use Rattle.sqlite.specs.State.{State}
use Rattle.sqlite_trees.specs.declared.store.Store.{Ghosts}
use Rattle.sqlite_wal.specs.Recovery.{Image}
use Rattle.thes_base.specs.State.{empty_state}
use Rattle.thes_base.specs.declared.data.Limits.{Limits}
use Rattle.thes_base.specs.declared.fault.Fault.{Fault}
use Rattle.thes_base.specs.declared.fault.Fault.TheVariants.{OutOfMemory}
use Rattle.thes_base.specs.declared.fault.PipeFault.TheVariants as pipe
use Rattle.thes_base.specs.declared.pipe.Pipe.{Pipe}
use Rattle.thes_base.specs.declared.request.Answer.{Answer}
use Rattle.thes_base.specs.declared.request.Command.{Command}
use Rattle.thes_tables.specs.Cells.{cells_of_tables}
use Rattle.thes_tables.specs.Tables.{Tables, empty_tables}
use Rattle.thes_store.specs.Storage.{StorageView}
use Rattle.thes_sqlite.specs.DatabaseFiles.{IsInitialStore}
use Rattle.thes_sqlite.specs.Reopening.{ReopeningView, view_of_connection, storage_still, IsStillOpen, FindsStill}
use Rattle.thes_sqlite.specs.KeeperView.{KeeperView}
use Rattle.thes_sqlite.specs.Reopening.{IsKeeperStillUp, LosesShut, ReturnsFirst, rows_still}
use Rattle.thes_sqlite.specs.declared.cause.Cause.{Cause}
use Rattle.thes_sqlite.specs.declared.reopening.Leaving.{Leaving}
use Rattle.thes_office.specs.Office.{TablesAfterRun}
use Rattle.thes_office.specs.TablesOfState.{TablesOfState}
use Rattle.thes_command_line.specs.Printing.{Prints, fault_line, fault_lines}
use Rattle.thes_command_line.specs.declared.trouble.StoreTrouble.TheVariants.{Unreadable}
use Rattle.thes_jobs.specs.Databases.{ClosesIfOpen, HoldsTables}
use Rattle.thes_jobs.specs.Trouble.{trouble_of}
use Rattle.thes_jobs.specs.declared.work.DatabaseWork.{DatabaseWork}
use Rattle.thes_jobs.specs.declared.work.MemoryWork.{MemoryWork}
use Rattle.thes_cli.specs.Checking.{no_sizes, sizes_of}
use Rattle.thes_cli.specs.Work.{WorksOpened, WorksOverKeeper}
use Rattle.thes_cli.specs.declared.closing.Closed.{Closed}
use Rattle.thes_cli.specs.declared.streams.Streams.{Streams}

-- The view that contracts have of storage in memory: it always works, and never fails.
abbrev pub storage_in_memory : Tables → StorageView
storage_in_memory t = record { rows = cells_of_tables t; is_up = Unit {0}; failures = 0 }

-- A run of the machine leads from the tables `t` to the tables `t'`.
abbrev pub RunLeads : Limits → Tables → Tables → Type 0
RunLeads limits t t' = (commands : List Command) × (answers : List Answer)
    × TablesAfterRun limits (cells_of_tables t) commands answers (cells_of_tables t')

-- If an office was opened, a run of the machine leads from the tables `t` to the tables `t'`; else they are the same.
abbrev pub RunsIfOpened : {A B : Type 0} → A ⊎ B → Limits → Tables → Tables → Type 0
RunsIfOpened (inl opened) limits t t' = RunLeads limits t t'
RunsIfOpened (inr unopened) limits t t' = t' ≡ t

-- The fault of a store that couldn't be opened is printed with the reason that its cause gives, and the status is 3.
pub record PrintsUnopened {E : Type 0} (err : E → Option (List ℕ)) (old new : Pipe E) (status : ℕ) : Type 0 where
  pub file : Option (List ℕ)
  pub fault : Fault
  pub cause : Cause
  pub prints_it : Prints err old new (fault_lines file (trouble_of cause Unreadable) fault)
  pub status_is : status ≡ 3

-- The files, over which work began with the tables `t`, hold a store with tables to which a run of the machine leads
-- from `t`; or the fault of a store that couldn't be opened is printed, and the files hold `t`.
pub record LeadsInFiles {E : Type 0} (err : E → Option (List ℕ)) (old new : Pipe E) (status : ℕ) (t : Tables)
    (holds : Tables → Type 0) : Type 0 where
  pub limits : Limits
  pub tables_after : Tables
  pub run : RunLeads limits t tables_after ⊎ (PrintsUnopened err old new status × (tables_after ≡ t))
  pub holds_after : holds tables_after

-- A failure had shut the database of this connection by the time it was to be closed, and what may be found in its
-- files is what could be found of it then.
abbrev pub WereShut : {S C : Type 0} → Ghosts S → (C → State → Type 0) → C → Type 0
WereShut {S} g finds files = (conn : Held S) × ((state g conn).is_open ≡ false) × finds files (state g conn)

-- If no failure has shut the database, and its files are clean now, `Ends` is true of them, also if closing failed.
abbrev pub EndsIfClosed : {S C : Type 0} → Ghosts S → (C → Type 0) → (C → State → Type 0) → Closed C → (C → Type 0)
    → Type 0
EndsIfClosed g is_clean finds closed Ends = closed.is_reopened ≡ false
    → IfSome closed.files (λ files. is_clean files → Ends files ⊎ WereShut g finds files)

-- The connection that a job leaves, if there is one, when no failure has shut its database.
abbrev pub open_leaving : {S : Type 0} → Option (Held S) → Leaving S
open_leaving conn = record { conn = conn; is_in_doubt = false; is_reopened = false }

module _ {S : Type 0} (store : Ghosts S) where
  -- The database was closed, if there is one. `rest` is what a failed opening has left of the files.
  pub record ClosesLeft {C : Type 0} (is_clean : C → Type 0) (holds : C → Database → Type 0)
      (finds : C → State → Type 0) (left : Leaving S) (rest : Option C) (closed : Closed C) : Type 0 where
    pub is_reopened : closed.is_reopened ≡ left.is_reopened
    pub is_in_doubt : closed.is_in_doubt ≡ left.is_in_doubt
    pub files : ClosesIfOpen store is_clean holds finds left.conn closed.files
    pub rest_is : closed.rest ≡ rest

  -- The storage was up to the end of the work, so that all promises of the work hold, and the files hold the tables
  -- that the storage had then. If an office was opened, a run of the machine leads to these from the tables with which
  -- the work began; else they are the same.
  pub record LeavesInFiles {A B : Type 0} (works : A ⊎ B) (limits : Limits) (t : Tables) (keeper : ReopeningView S)
      (holds : Tables → Type 0) : Type 0 where
    pub is_up : IsKeeperStillUp store keeper
    pub tables_after : Tables
    pub rows_after : rows_still store keeper ≡ cells_of_tables tables_after
    pub run : RunsIfOpened works limits t tables_after
    pub holds_after : holds tables_after

module _ {F R W E : Type 0} (given : F → Option (List ℕ)) (remaining : R → Option (List ℕ))
    (out : W → Option (List ℕ)) (err : E → Option (List ℕ)) where
  -- Memory for the store ran out, that fault is printed, and the status is 3.
  pub record ReportsNoMemory (old : Streams R W E) (status : ℕ) (new : Streams R W E) : Type 0 where
    pub input : new.input ≡ old.input
    pub output : new.output ≡ old.output
    pub prints_it : Prints err old.errors new.errors (fault_line (pipe.Fault OutOfMemory))
    pub status_is : status ≡ 3

  -- The work was done over a new store in memory, whose state is empty, with the base and the limits of the job; or
  -- memory for the store ran out.
  pub record WorksInMemory {P L : Type 0} (job : MemoryWork P F L) (old : Streams R W E) (status : ℕ)
      (new : Streams R W E) : Type 0 where
    pub shows : TablesOfState (cells_of_tables (empty_tables job.setting.base)) job.setting.base empty_state
    pub nothing : sizes_of empty_state ≡ no_sizes
    pub tables_after : Tables
    pub works :
        WorksOpened storage_in_memory given remaining out err job.work job.setting.limits
        (empty_tables job.setting.base) old status tables_after new
        ⊎ ReportsNoMemory old status new

  module _ {S : Type 0} (store : Ghosts S) where
    -- The work was done on the tables of the database, through the storage over this connection.
    pub record WorksInDatabase {O P L : Type 0} (image : Image) (job : DatabaseWork S O P F L) (old : Streams R W E)
        (status : ℕ) (left : Leaving S) (new : Streams R W E) : Type 0 where
      pub keeper : ReopeningView S
      pub works : WorksOverKeeper (storage_still store) (IsStillOpen store) (FindsStill store) given remaining out err
          job.work (Some (string_bytes job.file)) job.setting.limits (view_of_connection job.conn) old status keeper
          new
      -- The first connection is returned, unless a failure has shut it.
      pub back_is : IfSome keeper.first (λ k. (left.conn ≡ Some k.conn) × (left.is_reopened ≡ false))
      pub returns : left.is_reopened ≡ false → ReturnsFirst store image keeper left.conn
      -- If the database was reopened, the first connection, to the database of the files, was lost because a failure
      -- had shut it, unless the disk has failed silently.
      pub loses : IsTrue left.is_reopened → (k : KeeperView S) × LosesShut store image k
      pub certain : left.is_reopened ≡ false → left.is_in_doubt ≡ false
      -- A request is in doubt exactly if the storage has one in doubt at the end.
      pub doubt : left.is_in_doubt ≡ keeper.is_in_doubt

    -- The work was done on the tables of the database, and the database was closed. If no failure has shut it, and its
    -- files are clean, they hold the store after the work, and so after a run of the machine.
    pub record WorksToClosing {O P L C : Type 0} (image : Image) (is_clean : C → Type 0)
        (holds : C → Database → Type 0) (finds : C → State → Type 0) (job : DatabaseWork S O P F L)
        (old : Streams R W E) (status : ℕ) (closed : Closed C) (new : Streams R W E) : Type 0 where
      pub leaving : Leaving S
      pub works : WorksInDatabase image job old status leaving new
      pub closes : ClosesLeft store is_clean holds finds leaving None closed
      -- A request is in doubt only if a failure has shut the database.
      pub certain : closed.is_reopened ≡ false → closed.is_in_doubt ≡ false
      pub leaves : EndsIfClosed store is_clean finds closed (λ files. (schema : Schema) (t : Tables)
          → IsInitialStore image job.setting.base schema t
          → LeavesInFiles store works.works.0 job.setting.limits t works.keeper (HoldsTables (holds files) schema))
      pub leads : EndsIfClosed store is_clean finds closed (λ files. (schema : Schema) (t : Tables)
          → IsInitialStore image job.setting.base schema t
          → LeadsInFiles err old.errors new.errors status t (HoldsTables (holds files) schema))
