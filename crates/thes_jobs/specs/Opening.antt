-- The jobs that the program opens.
use Rattle.std.specs.Prelude.{◌≡◌, Bool, false, IfSome, is_some, Option, Some, None, Result, Ok, Err}
use Rattle.std.specs.Global.{Global}
use Rattle.std.specs.declared.fs.File.{File}
use Rattle.std.specs.declared.net.tcp.TcpListener.{TcpListener}
use Rattle.std.specs.declared.string.String.{String}
use Rattle.sqlite.specs.Held.{Held, state}
use Rattle.sqlite_trees.specs.declared.store.Store.{Ghosts}
use Rattle.sqlite_wal.specs.Recovery.{Image}
use Rattle.thes_base.specs.declared.fault.Fault.{Fault}
use Rattle.thes_command_line.specs.CommandLine.{is_import}
use Rattle.thes_command_line.specs.declared.early_exit.EarlyExit.{EarlyExit}
use Rattle.thes_command_line.specs.declared.arguments.Job.{Job}
use Rattle.thes_command_line.specs.declared.arguments.Task.{Task}
use Rattle.thes_command_line.specs.declared.arguments.Task.TheVariants.{Migrate}
use Rattle.thes_command_line.specs.declared.arguments.StoreSetting.{StoreSetting}
use Rattle.thes_command_line.specs.declared.start_failure.StartFailure.{StartFailure}
use Rattle.thes_command_line.specs.declared.start_failure.StartFailure.TheVariants as failures
use Rattle.thes_command_line.specs.declared.trouble.StoreTrouble.{StoreTrouble}
use Rattle.thes_command_line.specs.declared.trouble.StoreTrouble.TheVariants.{Unreadable}
use Rattle.thes_sqlite.specs.Faults.{IsKeeperFault}
use Rattle.thes_sqlite.specs.declared.cause.Cause.{Cause}
use Rattle.thes_jobs.specs.Databases.{IsReadyConnection, OpensFrom, ServesOldTables}
use Rattle.thes_jobs.specs.NewStore.{PreparesStore}
use Rattle.thes_jobs.specs.OpenStore.{IsOpenedFor, IsUnopenedStore}
use Rattle.thes_jobs.specs.PlannedWork.{OpensPlanned, planned_work}
use Rattle.thes_jobs.specs.declared.screen.Screen.{Screen}
use Rattle.thes_jobs.specs.declared.opening.FailedStart.{FailedStart}
use Rattle.thes_jobs.specs.declared.opening.OpenJob.{OpenJob}
use Rattle.thes_jobs.specs.declared.opening.OpenJob.TheVariants.{InFile, InMemory, Migration, Version}
use Rattle.thes_jobs.specs.declared.opening.StoreDatabase.{StoreDatabase}
use Rattle.thes_jobs.specs.declared.work.DatabaseWork.{DatabaseWork}
use Rattle.thes_jobs.specs.declared.work.MemoryWork.{MemoryWork}

-- If the job is work over a store in files with these contents, its connection is ready for the work; if it is a
-- migration, its connection is in no transaction, and serves a store of version 1 that the files held.
abbrev pub IsReadyJob : {S O : Type 0} → Ghosts S → Image → OpenJob S O → Type 0
IsReadyJob g image (InFile work) = IsReadyConnection g image work.setting.base work.conn
IsReadyJob g image (InMemory work) = Unit {0}
IsReadyJob g image (Migration file conn) = (conn.in_transaction ≡ false) × ServesOldTables image (state g conn)
IsReadyJob g image Version = Unit {0}

-- A listener for progress, if there is one, reports the rows of an import exactly when the task is one.
abbrev pub ListensTo : {R : Type 0} → Task → Option (Screen R) → Type 0
ListensTo task progress = IfSome progress (λ screen. screen.is_import ≡ is_import task)

-- The job of a task over the store in a file.
abbrev pub job_in_file : Task → String Global → StoreSetting → Job
job_in_file task file setting = record { task = task; file = Some file; setting = setting }

-- The job of a task over a new store in memory.
abbrev pub job_in_memory : Task → StoreSetting → Job
job_in_memory task setting = record { task = task; file = None; setting = setting }

module _ {S : Type 0} (store : Ghosts S) (image : Image) where
  -- The connection is that of a database that was opened with this setting, and is ready for work. Nothing was done in
  -- the database, except that it got the tables of a new store with the setting's base, if it was to have them.
  pub record IsPreparedFor (setting : StoreSetting) (conn : Held S) : Type 0 where
    pub database : StoreDatabase S
    pub opens_it : IsOpenedFor setting.must_exist database
    pub is_opened : OpensFrom store image database.conn
    pub prepares : PreparesStore store database.opening setting.base database.conn (Ok tt) conn
    pub ready : IsReadyConnection store image setting.base conn

  -- The work is that of this job, over the store in its file.
  pub record IsDatabaseWork {O R F L : Type 0} (job : Job)
      (work : DatabaseWork S O (Option (Screen R)) F L) : Type 0 where
    pub does : OpensPlanned (planned_work job.task) (is_some work.progress) (Ok (Some work.work))
    pub file : job.file ≡ Some work.file
    pub setting : work.setting ≡ job.setting
    pub connects : IsPreparedFor job.setting work.conn
    pub listens : ListensTo job.task work.progress

  -- The work is that of this job, over a new store in memory.
  pub record IsMemoryWork {R F L : Type 0} (job : Job) (work : MemoryWork (Option (Screen R)) F L) : Type 0 where
    pub does : OpensPlanned (planned_work job.task) (is_some work.progress) (Ok (Some work.work))
    pub file : job.file ≡ None
    pub setting : work.setting ≡ job.setting
    pub listens : ListensTo job.task work.progress

  -- The job that was planned is the one that is open.
  abbrev pub IsOpenJob : {O : Type 0} → Job → OpenJob S O → Type 0
  IsOpenJob job (InFile work) = IsDatabaseWork job work
  IsOpenJob job (InMemory work) = IsMemoryWork job work
  IsOpenJob job (Migration file conn) =
      (job.task ≡ Migrate) × (job.file ≡ Some file) × IsPreparedFor job.setting conn
  IsOpenJob job Version = (job.task ≡ Migrate) × (job.file ≡ None)

  -- The connection is that of a database that was opened with this setting, and in which nothing was done; there is
  -- none if the store isn't in a file.
  abbrev pub LeavesUnused : Option (String Global) → StoreSetting → Option (Held S) → Type 0
  LeavesUnused None setting left = left ≡ None
  LeavesUnused (Some file) setting left = (database : StoreDatabase S) × IsOpenedFor setting.must_exist database
      × OpensFrom store image database.conn × (left ≡ Some database.conn)

  module _ {L : Type 0} (keeps : Cause → L → Type 0) where
    -- The trouble and the fault of a store that couldn't be opened or prepared with this setting, or whose file's full
    -- path wasn't found; and the connection to its database, if that was opened, or what is left of its files.
    pub data IsUnpreparedStore (setting : StoreSetting) (reported : StoreTrouble × Fault) (left : Option (Held S))
        (rest : Option L) : Type 0 where
      unopened : IsUnopenedStore keeps setting.must_exist reported rest → left ≡ None
          → IsUnpreparedStore setting reported left rest
      unprepared : (database : StoreDatabase S) → IsOpenedFor setting.must_exist database
          → OpensFrom store image database.conn → (back : Held S) → left ≡ Some back → rest ≡ None
          → PreparesStore store database.opening setting.base database.conn (Err reported) back
          → IsUnpreparedStore setting reported left rest
      lost : reported.0 ≡ Unreadable → IsKeeperFault reported.1 → (conn : Held S) → left ≡ Some conn → rest ≡ None
          → IsPreparedFor setting conn
          → IsUnpreparedStore setting reported left rest

    -- The reason why a job couldn't be opened: its posting file or socket, or its store; and the connection to its
    -- database, or what is left of its files.
    abbrev pub IsOpenFailure : Job → StartFailure → Option (Held S) → Option L → Type 0
    IsOpenFailure job (failures.EarlyExit early_exit) left rest = ⊥
    IsOpenFailure job (failures.Unopened failure) left rest =
        ((prints_it : Bool) × OpensPlanned {F = File} {L = TcpListener} (planned_work job.task) prints_it (Err failure))
        × LeavesUnused job.file job.setting left × (rest ≡ None)
    IsOpenFailure job (failures.InStore file trouble fault) left rest =
        (job.file ≡ Some file) × IsUnpreparedStore job.setting (trouble, fault) left rest

    -- The job is opened, or the failure says why not.
    abbrev pub OpensJob : {O : Type 0} → Job → Result (OpenJob S O) (FailedStart S L) → Type 0
    OpensJob job (Ok it) = IsOpenJob job it
    OpensJob job (Err failed) = IsOpenFailure job failed.failure failed.conn failed.rest

    -- The job of a command line is opened, or the failure says why not; a command line without a job has the failure of
    -- its early exit.
    abbrev pub OpensPlan : {O : Type 0} → Result Job EarlyExit → Result (OpenJob S O) (FailedStart S L) → Type 0
    OpensPlan (Ok job) opened = OpensJob job opened
    OpensPlan (Err early_exit) opened =
        opened ≡ Err (record { failure = failures.EarlyExit early_exit; conn = None; rest = None })
