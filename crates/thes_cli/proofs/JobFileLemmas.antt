-- Proves how the files of a job end, whether its work was done, couldn't begin, or was a migration.
use Rattle.std.proofs.Common.{◌≡◌, ◌⊎◌, inl, inr, refl, sym, subst, ℕ, List, Option, Some, None, Result, Ok, Err, arith}
use Rattle.std.specs.Prelude.{Bool, IfSome, IsSomeAnd, MatchOption, is_some, string_bytes}
use Rattle.std.specs.Global.{Global}
use Rattle.std.specs.declared.fs.File.{File}
use Rattle.std.specs.declared.net.tcp.TcpListener.{TcpListener}
use Rattle.std.specs.declared.string.String.{String}
use Rattle.sqlite.specs.Effect.{Database, IsDatabase}
use Rattle.sqlite.specs.Held.{Held, state}
use Rattle.sqlite.specs.Schema.{Schema}
use Rattle.sqlite.specs.State.{State}
use Rattle.sqlite_trees.specs.declared.store.Store.{Ghosts}
use Rattle.sqlite_wal.specs.Recovery.{Image}
use Rattle.thes_base.specs.declared.fault.Fault.{Fault}
use Rattle.thes_base.specs.declared.pipe.Pipe.{Pipe}
use Rattle.thes_tables.specs.OldRows.{tables_after_migration}
use Rattle.thes_tables.specs.Tables.{Tables}
use Rattle.thes_sql.specs.OldStore.{KeepsOld}
use Rattle.thes_sql.specs.Schema.{store_schema}
use Rattle.thes_sql.specs.StoredRows.{KeepsIn}
use Rattle.thes_sqlite.specs.DatabaseFiles.{IsInitialStore, HoldsOldStore, HoldsStore}
use Rattle.thes_sqlite.specs.KeeperView.{IsUp, ServesTables}
use Rattle.thes_sqlite.specs.MigrationEffects.{Migrates}
use Rattle.thes_sqlite.specs.declared.cause.Cause.{Cause}
use Rattle.thes_command_line.specs.Printing.{file_fault_lines, open_failure_line}
use Rattle.thes_command_line.specs.declared.early_exit.EarlyExit.{EarlyExit}
use Rattle.thes_command_line.specs.declared.arguments.Job.{Job}
use Rattle.thes_command_line.specs.declared.arguments.StoreSetting.{StoreSetting}
use Rattle.thes_command_line.specs.declared.arguments.Task.{Task}
use Rattle.thes_command_line.specs.declared.arguments.Task.TheVariants.{Migrate}
use Rattle.thes_command_line.specs.declared.start_failure.StartFailure.{StartFailure}
use Rattle.thes_command_line.specs.declared.start_failure.StartFailure.TheVariants as failures
use Rattle.thes_command_line.specs.declared.trouble.StoreTrouble.TheVariants.{Unwritable}
use Rattle.thes_jobs.specs.Databases.{ClosesDatabase, HoldsOldTables, HoldsTables, ServesIfOpen, ServesOldTables}
use Rattle.thes_jobs.specs.Databases.{was_shut, was_up}
use Rattle.thes_jobs.specs.Migrating.{MigratesDatabase, ReportsMigration}
use Rattle.thes_jobs.specs.Opening.{IsOpenFailure, OpensPlan}
use Rattle.thes_jobs.specs.PlannedWork.{OpensPlanned, planned_work}
use Rattle.thes_jobs.specs.Trouble.{trouble_of}
use Rattle.thes_jobs.specs.declared.opening.FailedStart.{FailedStart}
use Rattle.thes_jobs.specs.declared.opening.OpenJob.TheVariants.{InFile, Migration}
use Rattle.thes_jobs.specs.declared.work.DatabaseWork.{DatabaseWork}
use Rattle.thes_jobs.specs.declared.work.Work.{Work}
use Rattle.thes_cli.specs.Running.{EndsJob, EndsMigrated, LeadsIfClosed, LeavesNoFiles}
use Rattle.thes_cli.specs.Running.{MigratesInFile, PrintsStartFault, ReportsNoJob, as_before, as_migrated}
use Rattle.thes_cli.specs.Running.{by_migration, by_work, without_work}
use Rattle.thes_cli.specs.Stores.{ClosesLeft, WereShut, WorksToClosing, open_leaving}
use Rattle.thes_cli.specs.declared.closing.Closed.{Closed}
use Rattle.thes_cli.specs.declared.streams.Streams.{Streams}

if_some_weaker : {A : Type 0} (o : Option A) (P Q : A → Type 0) → ((x : A) → P x → Q x) → IfSome o P → IfSome o Q
if_some_weaker None P Q so is = tt
if_some_weaker (Some x) P Q so is = so x is

if_some : {A : Type 0} (o : Option A) (P : A → Type 0) → IsSomeAnd o P → IfSome o P
if_some None P is = tt
if_some (Some x) P is = is

-- If the files of a closed connection have the property `Q` whenever the connection has `P`, the files that are left
-- have `Q`.
of_closed : {A C : Type 0} (conn : Option A) (files : Option C) (Closes : A → C → Type 0) (P : A → Type 0)
    (Q : C → Type 0)
    → ((a : A) (f : C) → P a → Closes a f → Q f) → IfSome conn P
    → MatchOption conn (files ≡ None) (λ a. IsSomeAnd files (Closes a)) → IfSome files Q
of_closed {A} {C} None files Closes P Q so is closes = subst (λ (o : Option C). IfSome o Q) (sym closes) tt
of_closed {A} {C} (Some a) None Closes P Q so is closes = tt
of_closed {A} {C} (Some a) (Some f) Closes P Q so is closes = so a f is closes

-- A job whose task isn't a migration has work to do, so a migration isn't work over a store.
no_work : (F L : Type 0) (prints_it : Bool) (work : Work F L)
    → OpensPlanned (planned_work Migrate) prints_it (Ok (Some work)) → ⊥
no_work F L prints_it work opens = absurd (cc)

module _ {S : Type 0} (g : Ghosts S) (image : Image) {E C : Type 0} (err : E → Option (List ℕ))
    (is_clean : C → Type 0) (holds : C → Database → Type 0) (finds : C → State → Type 0)
    (keeps : Cause → C → Type 0) where
  -- For a job that leaves no files, nothing needs to be shown of what they hold.
  pub leads_without_files : (planned : Result Job EarlyExit) (old new : Pipe E) (status : ℕ) (closed : Closed C)
      → LeavesNoFiles closed → LeadsIfClosed err g image is_clean holds finds planned old new status closed
  leads_without_files (Err early_exit) old new status closed none = tt
  leads_without_files (Ok job) old new status closed none = λ kept.
      subst (λ (closed : Closed C). IfSome closed.files (λ files. is_clean files
      → EndsJob err image job old new status (holds files) ⊎ WereShut g finds files)) (sym none) tt

  -- The reason why work couldn't begin is printed.
  prints_fault : {R W : Type 0} (out : W → Option (List ℕ)) (old new : Streams R W E) (status : ℕ) (job : Job)
      (failure : StartFailure) (conn : Option (Held S)) (rest : Option C)
      → IsOpenFailure g image keeps job failure conn rest
      → ReportsNoJob out err g old status new failure → PrintsStartFault err old.errors new.errors status
  prints_fault out old new status job (failures.EarlyExit early_exit) conn rest failed reports = absurd failed
  prints_fault out old new status job (failures.Unopened failure) conn rest failed reports = record {
    text = open_failure_line failure;
    is_fault = inl (failure, refl);
    prints_it = reports.reports.0;
    status_is = reports.reports.2;
  }
  prints_fault out old new status job (failures.InStore file trouble fault) conn rest failed reports = record {
    text = file_fault_lines (string_bytes file) trouble fault;
    is_fault = inr (string_bytes file, trouble, fault, refl);
    prints_it = reports.reports.0;
    status_is = reports.reports.2;
  }

  -- Files that hold the database of a connection hold the store that it was.
  module _ (conn : Held S) (files : C) (sound : IsDatabase (state g conn).committed)
      (held : holds files (state g conn).committed) where
    held_store : (schema : Schema) (t : Tables) → (state g conn).now ≡ (state g conn).committed
        → KeepsIn schema (state g conn).now t → HoldsTables (holds files) schema t
    held_store schema t same keeps = record {
      database = (state g conn).committed;
      sound = sound;
      held = held;
      keeps = subst (λ (d : Database). KeepsIn schema d t) same keeps;
    }

    held_old_store : (t : Tables) → (state g conn).now ≡ (state g conn).committed → KeepsOld (state g conn).now t
        → HoldsOldTables (holds files) t
    held_old_store t same keeps = record {
      database = (state g conn).committed;
      held = held;
      keeps = subst (λ (d : Database). KeepsOld d t) same keeps;
    }

  -- Files of a job whose work couldn't begin hold the store that they held.
  ends_unbegun : (job : Job) (old new : Pipe E) (status : ℕ) (conn : Held S) (files : C)
      → PrintsStartFault err old new status → ServesTables (HoldsStore image) (state g conn)
      → ServesOldTables image (state g conn) → ClosesDatabase (holds files) (finds files) (state g conn)
      → EndsJob err image job old new status (holds files) ⊎ WereShut g finds files
  ends_unbegun job old new status conn files printed serves serves_old (was_shut clean shut found) =
      inr (conn, shut, found)
  ends_unbegun job old new status conn files printed serves serves_old (was_up up sound held) = inl (record {
    current = λ schema t begins. without_work printed (λ store. let here = serves up schema t store in
        held_store conn files sound held schema t here.0 here.1);
    older = λ task t store. let here = serves_old up t store in
        as_before printed (held_old_store conn files sound held t here.0 here.1);
  })

  pub leads_without_work : {R W : Type 0} (O : Type 0) (out : W → Option (List ℕ)) (planned : Result Job EarlyExit)
      (old new : Streams R W E) (status : ℕ) (failed : FailedStart S C) (closed : Closed C)
      → OpensPlan g image keeps {O = O} planned (Err failed) → ServesIfOpen g image failed.conn
      → ReportsNoJob out err g old status new failed.failure
      → ClosesLeft g is_clean holds finds (open_leaving failed.conn) failed.rest closed
      → LeadsIfClosed err g image is_clean holds finds planned old.errors new.errors status closed
  leads_without_work O out (Err early_exit) old new status failed closed opens serves reports closes = tt
  leads_without_work O out (Ok job) old new status failed closed opens serves reports closes = λ kept.
      of_closed failed.conn closed.files
      (λ conn files. is_clean files → ClosesDatabase (holds files) (finds files) (state g conn))
      (λ conn. ServesTables (HoldsStore image) (state g conn) × ServesOldTables image (state g conn))
      (λ files. is_clean files → EndsJob err image job old.errors new.errors status (holds files)
      ⊎ WereShut g finds files)
      (λ conn files serves closes clean. ends_unbegun job old.errors new.errors status conn files
      (prints_fault out old new status job failed.failure failed.conn failed.rest opens reports) serves.0 serves.1
      (closes clean)) serves closes.files

  -- A migration doesn't change the tables of a store of version 2.
  unwritten : (conn back : Held S) (result : Result ℕ Fault) (schema : Schema) (t : Tables)
      → Migrates g conn back result → IsUp (state g back) → KeepsIn schema (state g conn).now t
      → KeepsIn schema (state g back).now t
  unwritten conn back (Ok version) schema t migrates up keeps =
      let same = migrates.current up.0 t keeps.keeps in
      subst (λ (d : Database). KeepsIn schema d t) (sym same.0) keeps
  unwritten conn back (Err fault) schema t migrates up keeps =
      let same = migrates.none up in
      subst (λ (d : Database). KeepsIn schema d t) (sym same.0) keeps

  was_up_before : (conn back : Held S) (result : Result ℕ Fault) → Migrates g conn back result → IsUp (state g back)
      → IsUp (state g conn)
  was_up_before conn back result migrates up =
      let doubt = migrates.crash.clean in
      let clean = up.0 in (omega (arith, doubt, clean), migrates.was up)

  -- What a migration leaves of a store of version 1.
  migrated : {R W : Type 0} (out : W → Option (List ℕ)) (old new : Streams R W E) (status : ℕ) (file : List ℕ)
      (conn back : Held S) (files : C) (t : Tables) (result : Result ℕ Fault) → Migrates g conn back result
      → ReportsMigration out err old.output new.output old.errors new.errors file result status
      → ServesOldTables image (state g conn) → HoldsOldStore image t → IsUp (state g back)
      → IsDatabase (state g back).committed → holds files (state g back).committed
      → EndsMigrated err old.errors new.errors status (holds files) t
  migrated out old new status file conn back files t (Ok version) does reports serves store up sound held =
      let here = serves (was_up_before conn back (Ok version) does up) t store in
      let made = does.made up.0 t here.1 in as_migrated (held_store back files sound held store_schema
      (tables_after_migration t) (does.settled up) made.1)
  migrated out old new status file conn back files t (Err fault) does reports serves store up sound held =
      let here = serves (was_up_before conn back (Err fault) does up) t store in
      let same = does.none up in
      as_before (record {
        text = file_fault_lines file (trouble_of reports.cause Unwritable) fault;
        is_fault = inr (file, trouble_of reports.cause Unwritable, fault, refl);
        prints_it = reports.prints_it;
        status_is = reports.status_is;
      }) (held_old_store back files sound held t (does.settled up)
      (subst (λ (d : Database). KeepsOld d t) (sym same.0) here.1))

  -- What the files of a job hold after a migration.
  ends_migration : {R W : Type 0} (out : W → Option (List ℕ)) (job : Job) (old new : Streams R W E) (status : ℕ)
      (file : List ℕ) (conn back : Held S) (files : C) → job.task ≡ Migrate
      → ServesTables (IsInitialStore image job.setting.base) (state g conn) → ServesOldTables image (state g conn)
      → MigratesDatabase out err old.output new.output old.errors new.errors g file conn status back
      → ClosesDatabase (holds files) (finds files) (state g back)
      → EndsJob err image job old.errors new.errors status (holds files) ⊎ WereShut g finds files
  ends_migration out job old new status file conn back files task serves serves_old does (was_shut clean shut found) =
      inr (back, shut, found)
  ends_migration out job old new status file conn back files task serves serves_old does (was_up up sound held) =
      inl (record {
        current = λ schema t begins.
            let here = serves (was_up_before conn back does.result does.migrates up) schema t begins in
            by_migration task (held_store back files sound held schema t (does.migrates.settled up)
            (unwritten conn back does.result schema t does.migrates up here.1));
        older = λ task t store. migrated out old new status file conn back files t does.result does.migrates
            does.reports serves_old store up sound held;
      })

  pub leads_by_migration : {R W : Type 0} (O : Type 0) (out : W → Option (List ℕ)) (planned : Result Job EarlyExit)
      (old new : Streams R W E) (status : ℕ) (file : String Global) (conn : Held S) (closed : Closed C)
      → OpensPlan g image keeps {O = O} planned (Ok (Migration file conn)) → ServesOldTables image (state g conn)
      → MigratesInFile out err g old status new is_clean holds finds file conn closed
      → LeadsIfClosed err g image is_clean holds finds planned old.errors new.errors status closed
  leads_by_migration O out (Err early_exit) old new status file conn closed opens serves migrates = tt
  leads_by_migration O out (Ok job) old new status file conn closed opens serves migrates = λ kept.
      if_some_weaker closed.files
      (λ files. is_clean files → ClosesDatabase (holds files) (finds files) (state g migrates.conn_after)) _
      (λ files closes clean. ends_migration out job old new status (string_bytes file) conn migrates.conn_after files
      opens.0 opens.2.ready.serves serves migrates.migrates (closes clean))
      (if_some closed.files
      (λ files. is_clean files → ClosesDatabase (holds files) (finds files) (state g migrates.conn_after))
      migrates.closes_it.files)

  -- The files of a job whose work was done hold what the work over the store has left in them; it was no migration.
  pub leads_by_work : {R W O : Type 0} (given : File → Option (List ℕ)) (remaining : R → Option (List ℕ))
      (out : W → Option (List ℕ)) (planned : Result Job EarlyExit) (old new : Streams R W E) (status : ℕ)
      (work : DatabaseWork S O _ File TcpListener) (closed : Closed C)
      → OpensPlan g image keeps {O = O} planned (Ok (InFile work))
      → WorksToClosing given remaining out err g image is_clean holds finds work old status closed new
      → LeadsIfClosed err g image is_clean holds finds planned old.errors new.errors status closed
  leads_by_work given remaining out (Err early_exit) old new status work closed opens works = tt
  leads_by_work given remaining out (Ok job) old new status work closed opens works = λ kept.
      if_some_weaker closed.files _ _ (λ files ends clean. elim (ends clean) [
        | inl leads ↦ inl (record {
          current = λ schema t begins. by_work (leads schema t (subst (λ (setting : StoreSetting).
              IsInitialStore image setting.base schema t) (sym opens.setting) begins));
          older = λ task. absurd (no_work File TcpListener (is_some work.progress) work.work
              (subst (λ (task : Task). OpensPlanned (planned_work task) (is_some work.progress) (Ok (Some work.work)))
              task opens.does));
        })
        | inr shut ↦ inr shut
      ]) (works.leads kept)
