-- The run of a command line: its job is opened and done, or the reason why not is reported.
use Rattle.std.specs.Prelude.{◌≡◌, ◌⊎◌, ℕ, List, Option, None, Some, Result, Ok, Err, IfOk, false, string_bytes}
use Rattle.std.specs.Global.{Global}
use Rattle.std.specs.declared.fs.File.{File}
use Rattle.std.specs.declared.string.String.{String}
use Rattle.sqlite.specs.Effect.{Database}
use Rattle.sqlite.specs.Held.{Held}
use Rattle.sqlite.specs.Schema.{Schema}
use Rattle.sqlite.specs.State.{State}
use Rattle.sqlite_trees.specs.declared.store.Store.{Ghosts}
use Rattle.sqlite_wal.specs.Recovery.{Image}
use Rattle.thes_base.specs.declared.fault.Fault.{Fault}
use Rattle.thes_base.specs.declared.pipe.Pipe.{Pipe}
use Rattle.thes_tables.specs.OldRows.{tables_after_migration}
use Rattle.thes_tables.specs.Tables.{Tables}
use Rattle.thes_sql.specs.Schema.{store_schema}
use Rattle.thes_sqlite.specs.DatabaseFiles.{HoldsOldStore, HoldsStore, IsInitialStore}
use Rattle.thes_sqlite.specs.declared.cause.Cause.{Cause}
use Rattle.thes_command_line.specs.Printing.{Prints, PrintsText, file_fault_lines, open_failure_line}
use Rattle.thes_command_line.specs.StartFailure.{ReportsStartFailure}
use Rattle.thes_command_line.specs.declared.early_exit.EarlyExit.{EarlyExit}
use Rattle.thes_command_line.specs.declared.arguments.Job.{Job}
use Rattle.thes_command_line.specs.declared.arguments.Task.TheVariants.{Migrate}
use Rattle.thes_command_line.specs.declared.start_failure.OpenFailure.{OpenFailure}
use Rattle.thes_command_line.specs.declared.start_failure.StartFailure.{StartFailure}
use Rattle.thes_command_line.specs.declared.trouble.StoreTrouble.{StoreTrouble}
use Rattle.thes_jobs.specs.Databases.{HoldsOldTables, HoldsTables}
use Rattle.thes_jobs.specs.Migrating.{MigratesDatabase, version_line}
use Rattle.thes_jobs.specs.Opening.{IsReadyJob, OpensPlan}
use Rattle.thes_jobs.specs.declared.opening.FailedStart.{FailedStart}
use Rattle.thes_jobs.specs.declared.opening.OpenJob.{OpenJob}
use Rattle.thes_jobs.specs.declared.opening.OpenJob.TheVariants.{InFile, InMemory, Migration, Version}
use Rattle.thes_cli.specs.Stores.{ClosesLeft, EndsIfClosed, LeadsInFiles, WorksInMemory, WorksToClosing, open_leaving}
use Rattle.thes_cli.specs.declared.closing.Closed.{Closed}
use Rattle.thes_cli.specs.declared.streams.Streams.{Streams}

-- Nothing is left of a store's files, no request is in doubt, and no failure has shut a database.
abbrev pub LeavesNoFiles : {C : Type 0} → Closed C → Type 0
LeavesNoFiles closed = closed ≡ record { files = None; rest = None; is_in_doubt = false; is_reopened = false }

-- The fault of a posting file, a socket or a store that kept work from beginning, or a store from being migrated, is
-- printed, and the status is 3.
pub record PrintsStartFault {E : Type 0} (err : E → Option (List ℕ)) (old new : Pipe E) (status : ℕ) : Type 0 where
  pub text : List ℕ
  pub is_fault : ((failure : OpenFailure) × (text ≡ open_failure_line failure))
      ⊎ ((file : List ℕ) × (trouble : StoreTrouble) × (fault : Fault) × (text ≡ file_fault_lines file trouble fault))
  pub prints_it : Prints err old new text
  pub status_is : status ≡ 3

-- The contents of a job's files at its end, if its work began with the tables `t` in this schema: a store with tables
-- to which a run of the machine leads from `t`; or with `t` itself, after a fault of opening the store, or after a
-- migration. If the work couldn't begin, files that held a store still hold it.
pub data EndsInFiles {E : Type 0} (err : E → Option (List ℕ)) (image : Image) (job : Job) (old new : Pipe E)
    (status : ℕ) (holds : Schema → Tables → Type 0) (schema : Schema) (t : Tables) : Type 0 where
  by_work : LeadsInFiles err old new status t (holds schema) → EndsInFiles err image job old new status holds schema t
  by_migration : job.task ≡ Migrate → holds schema t → EndsInFiles err image job old new status holds schema t
  without_work : PrintsStartFault err old new status → (HoldsStore image schema t → holds schema t)
      → EndsInFiles err image job old new status holds schema t

-- The contents of a job's files after a migration, if they held a store of version 1 with the tables `t`: a store of
-- version 2 with the migrated tables; or the same store of version 1, and a fault is printed.
pub data EndsMigrated {E : Type 0} (err : E → Option (List ℕ)) (old new : Pipe E) (status : ℕ)
    (holds : Database → Type 0) (t : Tables) : Type 0 where
  as_migrated : HoldsTables holds store_schema (tables_after_migration t) → EndsMigrated err old new status holds t
  as_before : PrintsStartFault err old new status → HoldsOldTables holds t → EndsMigrated err old new status holds t

-- The contents of a job's files at its end: what `EndsInFiles` says for the store with which the job's work began, the
-- one in the files or an empty one in new files; and what `EndsMigrated` says after a migration, if they held a store
-- of version 1.
pub record EndsJob {E : Type 0} (err : E → Option (List ℕ)) (image : Image) (job : Job) (old new : Pipe E)
    (status : ℕ) (holds : Database → Type 0) : Type 0 where
  pub current : (schema : Schema) (t : Tables) → IsInitialStore image job.setting.base schema t
      → EndsInFiles err image job old new status (HoldsTables holds) schema t
  pub older : job.task ≡ Migrate → (t : Tables) → HoldsOldStore image t → EndsMigrated err old new status holds t

-- If no failure has shut the database of a job, and its files are clean now, they hold what `EndsJob` says.
abbrev pub LeadsIfClosed : {S E C : Type 0} → (E → Option (List ℕ)) → Ghosts S → Image → (C → Type 0)
    → (C → Database → Type 0) → (C → State → Type 0) → Result Job EarlyExit → Pipe E → Pipe E → ℕ → Closed C → Type 0
LeadsIfClosed err store image is_clean holds finds planned old new status closed =
    IfOk planned (λ job. EndsIfClosed store is_clean finds closed (λ files.
    EndsJob err image job old new status (holds files)))

module _ {R W E S : Type 0} (out : W → Option (List ℕ)) (err : E → Option (List ℕ)) (store : Ghosts S)
    (old : Streams R W E) (status : ℕ) (new : Streams R W E) where
  -- The database of the store in the file with this name was migrated, or a fault prevented that; the database was
  -- closed, and the version or the fault was printed.
  pub record MigratesInFile {C : Type 0} (is_clean : C → Type 0) (holds : C → Database → Type 0)
      (finds : C → State → Type 0) (file : String Global) (conn : Held S) (closed : Closed C) : Type 0 where
    pub input : new.input ≡ old.input
    pub conn_after : Held S
    pub closes_it : ClosesLeft store is_clean holds finds (open_leaving (Some conn_after)) None closed
    pub migrates : MigratesDatabase out err old.output new.output old.errors new.errors store (string_bytes file) conn
        status conn_after

  -- No job was opened, for this reason, which is reported.
  pub record ReportsNoJob (failure : StartFailure) : Type 0 where
    pub input : new.input ≡ old.input
    pub reports : ReportsStartFailure out err old.output new.output old.errors new.errors failure status

  -- The version of a new store in memory was printed.
  pub record PrintsVersion : Type 0 where
    pub input : new.input ≡ old.input
    pub prints_it : PrintsText out err old.output new.output old.errors new.errors version_line status

module _ {R W E S C : Type 0} (given : File → Option (List ℕ)) (remaining : R → Option (List ℕ))
    (out : W → Option (List ℕ)) (err : E → Option (List ℕ)) (store : Ghosts S) (image : Image) (is_clean : C → Type 0)
    (holds : C → Database → Type 0) (finds : C → State → Type 0) (keeps : Cause → C → Type 0) where
  -- The work of the job that was opened was done, and its store was closed; or the reason why no job was opened is
  -- reported, and the database was closed if it was opened.
  abbrev pub DoesOpened : {O : Type 0} → Result (OpenJob S O) (FailedStart S C) → Streams R W E → ℕ → Closed C
      → Streams R W E → Type 0
  DoesOpened (Ok (InFile work)) old status closed new =
      WorksToClosing given remaining out err store image is_clean holds finds work old status closed new
  DoesOpened (Ok (InMemory work)) old status closed new =
      WorksInMemory given remaining out err work old status new × LeavesNoFiles closed
  DoesOpened (Ok (Migration file conn)) old status closed new =
      MigratesInFile out err store old status new is_clean holds finds file conn closed
  DoesOpened (Ok Version) old status closed new = PrintsVersion out err store old status new × LeavesNoFiles closed
  DoesOpened (Err failed) old status closed new =
      ReportsNoJob out err store old status new failed.failure
      × ClosesLeft store is_clean holds finds (open_leaving failed.conn) failed.rest closed

  -- The job of a command line was opened as the command line says, and done. The database of work over a store is the
  -- one that was opened in files with the contents `image`. If it couldn't be opened, what is left of the files keeps
  -- what they held.
  pub record RunsPlan (O : Type 0) (planned : Result Job EarlyExit) (old : Streams R W E) (status : ℕ)
      (closed : Closed C) (new : Streams R W E) : Type 0 where
    pub open_job : Result (OpenJob S O) (FailedStart S C)
    pub opens_it : OpensPlan store image keeps planned open_job
    pub ready : IfOk open_job (IsReadyJob store image)
    pub does : DoesOpened open_job old status closed new
