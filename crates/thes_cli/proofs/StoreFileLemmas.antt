-- Proves that after work over a store in files, the files hold the store to which the work led.
use Rattle.std.proofs.Common.{◌≡◌, ◌∙◌, ◌⊎◌, inl, inr, refl, sym, ap, subst, ℕ, List, Option, Some, None, false}
use Rattle.std.specs.Prelude.{IfSome, IsSomeAnd, MatchOption, string_bytes}
use Rattle.sqlite.specs.Effect.{Database}
use Rattle.sqlite.specs.Held.{Held, state}
use Rattle.sqlite.specs.Schema.{Schema}
use Rattle.sqlite.specs.State.{State}
use Rattle.sqlite_trees.specs.declared.store.Store.{Ghosts}
use Rattle.sqlite_wal.specs.Recovery.{Image}
use Rattle.thes_base.specs.declared.data.Limits.{Limits}
use Rattle.thes_tables.specs.Cells.{Raw, cells_of_tables}
use Rattle.thes_tables.specs.Tables.{Tables}
use Rattle.thes_tables.proofs.CellLemmas.{listed_one}
use Rattle.thes_sql.specs.StoredRows.{KeepsIn}
use Rattle.thes_office.specs.Office.{TablesAfterRun}
use Rattle.thes_sqlite.proofs.KeeperLemmas.{raw_of}
use Rattle.thes_sqlite.specs.DatabaseFiles.{IsInitialStore, ServesFiles}
use Rattle.thes_sqlite.specs.KeeperView.{KeeperView, IsStore, IsUp, ServesTables}
use Rattle.thes_sqlite.specs.Reopening.{ReopeningView, FindsStill, IsKeeperStillUp, IsOpenFirst, IsServingFirst}
use Rattle.thes_sqlite.specs.Reopening.{IsStillOpen, ReturnsFirst, rows_of_first, rows_still, storage_still}
use Rattle.thes_sqlite.specs.Reopening.{view_of_connection}
use Rattle.thes_sqlite.specs.declared.reopening.Leaving.{Leaving}
use Rattle.thes_jobs.specs.Databases.{ClosesDatabase, HoldsTables, was_shut, was_up}
use Rattle.thes_jobs.specs.declared.work.DatabaseWork.{DatabaseWork}
use Rattle.thes_cli.specs.Stores.{ClosesLeft, EndsIfClosed, LeadsInFiles, LeavesInFiles}
use Rattle.thes_cli.specs.Stores.{RunsIfOpened, WereShut, WorksInDatabase, WorksToClosing}
use Rattle.thes_cli.specs.Work.{ReportsUnopened, WorksOpened, WorksOverKeeper}
use Rattle.thes_cli.specs.declared.closing.Closed.{Closed}
use Rattle.thes_cli.specs.declared.streams.Streams.{Streams}
use Rattle.thes_cli.proofs.StoreRunLemmas.{opened_reached, work_leads}

if_some_weaker : {A : Type 0} (o : Option A) (P Q : A → Type 0) → ((x : A) → P x → Q x) → IfSome o P → IfSome o Q
if_some_weaker None P Q so is = tt
if_some_weaker (Some x) P Q so is = so x is

the_value : {A : Type 0} {x y : A} → (let a : Option A = Some x in a) ≡ Some y → x ≡ y
the_value same = cc

module _ {S : Type 0} (g : Ghosts S) where
  open_first : (first : Option (KeeperView S)) → IsServingFirst g first → IsOpenFirst g first
  open_first None up = up
  open_first (Some k) up = up.1

  -- If the first connection is returned by a storage, and is up, so is the storage, and its rows are those of the
  -- database.
  pub record ServesReturned (schema : Schema) (keeper : ReopeningView S) (conn : Held S) : Type 0 where
    pub is_up : IsKeeperStillUp g keeper
    pub same : (state g conn).now ≡ (state g conn).committed
    pub tables : Tables
    pub keeps : KeepsIn schema (state g conn).now tables
    pub rows : rows_still g keeper ≡ cells_of_tables tables

  returned_serves : (image : Image) (base : List ℕ) (keeper : ReopeningView S) (back : Option (Held S))
      (conn : Held S) (schema : Schema) (t : Tables) → ReturnsFirst g image keeper back → back ≡ Some conn
      → IsUp (state g conn) → IsInitialStore image base schema t → ServesReturned schema keeper conn
  unfolding ServesFiles
  returned_serves image base keeper back conn schema t returns is up begins =
      let one : returns.keeper.conn ≡ conn = the_value (sym returns.conn_is ∙ is) in
      let up_then : IsUp (state g returns.keeper.conn) = subst (λ (c : Held S). IsUp (state g c)) (sym one) up in
      let known : IsStore (state g returns.keeper.first) =
      λ up_first. let x = returns.of_files up_first base schema t begins in
      record { settled = x.settled; keeps = (x.tables, x.keeps.keeps) } in
      let store = returns.kept.served known up_then in
      let keeps = store.keeps in
      let same = returns.kept.same known up_then in
      let keeps_in : KeepsIn schema (state g returns.keeper.conn).now keeps.0 = record {
        schema_is = same.1 ∙ (returns.of_files same.0 base schema t begins).keeps.schema_is;
        keeps = keeps.1;
      } in record {
        is_up = subst (IsServingFirst g) (sym returns.first_is) (known, up_then);
        same = subst (λ (c : Held S). (state g c).now ≡ (state g c).committed) one store.settled;
        tables = keeps.0;
        keeps = subst (λ (c : Held S). KeepsIn schema (state g c).now keeps.0) one keeps_in;
        rows = ap (rows_of_first g) returns.first_is
            ∙ raw_of (state g returns.keeper.conn).now.trees keeps.0 keeps.1.hold;
      }

  module _ {F R W E : Type 0} (given : F → Option (List ℕ)) (remaining : R → Option (List ℕ))
      (out : W → Option (List ℕ)) (err : E → Option (List ℕ)) where
    -- If an office was opened, a run of the machine leads from the tables of the files to those of the storage; else
    -- they are the same.
    tables_lead : {O P L : Type 0} (job : DatabaseWork S O P F L) (old new : Streams R W E) (status : ℕ)
        (keeper : ReopeningView S) (held : Schema → Tables → Type 0) (schema : Schema) (t after : Tables)
        → held schema t → ServesTables held (state g job.conn) → IsKeeperStillUp g keeper
        → rows_still g keeper ≡ cells_of_tables after
        → (works : WorksOverKeeper (storage_still g) (IsStillOpen g) (FindsStill g) given remaining out err
        job.work (Some (string_bytes job.file)) job.setting.limits (view_of_connection job.conn) old status keeper
        new) → RunsIfOpened works.0 job.setting.limits t after
    tables_lead job old new status keeper held schema t after holds serves up rows (inr unopened, found) =
        let keeps = unopened.fails_to_open.keeps in
        let at_start = serves (keeps.was up).1 schema t holds in
        listed_one after t (sym rows ∙ (keeps.same up ∙ raw_of (state g job.conn).now.trees t at_start.1.keeps.hold))
    tables_lead job old new status keeper held schema t after holds serves up rows (inl opened, found) =
        let last = opened.new_office.keeper in
        let up_last : IsKeeperStillUp g last = subst (λ (v : ReopeningView S). IsKeeperStillUp g v) opened.back_is up in
        let reached = work_leads (storage_still g) given out err remaining job.work opened.old_office opened.new_office
        old new status opened.does (opened_reached (storage_still g) job.setting.limits (view_of_connection job.conn)
        opened.old_office opened.opens) in
        let up_first = reached.was up_last in
        let finds = found (open_first opened.old_office.keeper.first up_first) in
        let at_start = serves finds.1.0 schema t holds in
        let run = reached.goes_on up_last in
        let rows_first = opened.opens.keeps.same up_first
        ∙ raw_of (state g job.conn).now.trees t at_start.1.keeps.hold in
        let rows_last = ap (rows_still g) (sym opened.back_is) ∙ rows in (
          run.0,
          run.1,
          subst (λ (l : Limits). TablesAfterRun l (cells_of_tables t) run.0 run.1 (cells_of_tables after))
              opened.opens.limits_are
              (subst (λ (r : Raw). TablesAfterRun opened.old_office.limits r run.0 run.1 (cells_of_tables after))
              rows_first (subst (λ (r : Raw). TablesAfterRun opened.old_office.limits
              (rows_still g opened.old_office.keeper) run.0 run.1 r) rows_last run.2)),
        )

    -- The tables that the storage had are those to which a run of the machine leads, or a fault of opening is printed.
    to_leads : {O P L : Type 0} (job : DatabaseWork S O P F L) (old new : Streams R W E) (status : ℕ)
        (keeper : ReopeningView S) (t : Tables) (holds : Tables → Type 0)
        (works : WorksOpened (storage_still g) given remaining out err job.work job.setting.limits
        (view_of_connection job.conn) old status keeper new
        ⊎ ReportsUnopened (storage_still g) given remaining out err (Some (string_bytes job.file))
        (view_of_connection job.conn) old status keeper new)
        → LeavesInFiles g works job.setting.limits t keeper holds
        → LeadsInFiles err old.errors new.errors status t holds
    to_leads job old new status keeper t holds (inl opened) x = record {
      limits = job.setting.limits;
      tables_after = x.tables_after;
      run = inl x.run;
      holds_after = x.holds_after;
    }
    to_leads job old new status keeper t holds (inr unopened) x = record {
      limits = job.setting.limits;
      tables_after = x.tables_after;
      run = inr (
        record {
          file = Some (string_bytes job.file);
          fault = unopened.fault;
          cause = unopened.cause;
          prints_it = unopened.prints_it;
          status_is = unopened.status_is;
        },
        x.run,
      );
      holds_after = x.holds_after;
    }

    module _ {O P L C : Type 0} (is_clean : C → Type 0) (holds : C → Database → Type 0) (finds : C → State → Type 0)
        (image : Image) (job : DatabaseWork S O P F L) (old new : Streams R W E) (status : ℕ) (left : Leaving S)
        (works : WorksInDatabase given remaining out err g image job old status left new)
        (serves : ServesTables (IsInitialStore image job.setting.base) (state g job.conn)) where
      -- What the files of a connection hold after the work.
      abbrev Leaves : C → Type 0
      Leaves files = (schema : Schema) (t : Tables) → IsInitialStore image job.setting.base schema t
          → LeavesInFiles g works.works.0 job.setting.limits t works.keeper (HoldsTables (holds files) schema)

      conn_leaves : (conn : Held S) (files : C) → left.conn ≡ Some conn → left.is_reopened ≡ false
          → ClosesDatabase (holds files) (finds files) (state g conn) → Leaves files ⊎ WereShut g finds files
      conn_leaves conn files is kept (was_shut clean shut found) = inr (conn, shut, found)
      conn_leaves conn files is kept (was_up up sound held) = inl (λ schema t begins.
          let end = returned_serves image job.setting.base works.keeper left.conn conn schema t (works.returns kept)
          is up begins in record {
            is_up = end.is_up;
            tables_after = end.tables;
            rows_after = end.rows;
            run = tables_lead job old new status works.keeper (IsInitialStore image job.setting.base) schema t
                end.tables begins serves end.is_up end.rows works.works;
            holds_after = record {
              database = (state g conn).committed;
              sound = sound;
              held = held;
              keeps = subst (λ (d : Database). KeepsIn schema d end.tables) end.same end.keeps;
            };
          })

      closed_leaves : (conn : Option (Held S)) (files : Option C) → conn ≡ left.conn → left.is_reopened ≡ false
          → MatchOption conn (files ≡ None) (λ conn. IsSomeAnd files (λ files.
          is_clean files → ClosesDatabase (holds files) (finds files) (state g conn)))
          → IfSome files (λ files. is_clean files → Leaves files ⊎ WereShut g finds files)
      closed_leaves None None is kept closes = tt
      closed_leaves None (Some files) is kept closes = absurd (cc)
      closed_leaves (Some conn) None is kept closes = tt
      closed_leaves (Some conn) (Some files) is kept closes =
          λ clean. conn_leaves conn files (sym is) kept (closes clean)

      -- After work over a store in files, closing its database leaves the store after the work in the files.
      pub works_to_closing : (closed : Closed C) → ClosesLeft g is_clean holds finds left None closed
          → WorksToClosing given remaining out err g image is_clean holds finds job old status closed new
      works_to_closing closed closes = record {
        leaving = left;
        works = works;
        closes = closes;
        certain = λ kept. closes.is_in_doubt ∙ works.certain (sym closes.is_reopened ∙ kept);
        leaves = leaves;
        leads = λ kept. if_some_weaker closed.files _ _ (λ files ends clean. elim (ends clean) [
          | inl leaves ↦ inl (λ schema t begins. to_leads job old new status works.keeper t
              (HoldsTables (holds files) schema) works.works.0 (leaves schema t begins))
          | inr shut ↦ inr shut
        ]) (leaves kept);
      }
        where
          leaves : EndsIfClosed g is_clean finds closed Leaves
          leaves kept = closed_leaves left.conn closed.files refl (sym closes.is_reopened ∙ kept) closes.files
