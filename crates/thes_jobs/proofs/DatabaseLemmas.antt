-- Proves that opening a database and closing it keep the store in its files.
use Rattle.std.proofs.Common.{arith, ◌≡◌, ◌⊎◌, inl, inr, ◌∙◌, refl, sym, ap, subst, ℕ, Bool, cond, List, [], ◌∷◌, length}
use Rattle.std.specs.Prelude.{Option, None, Some, IfSome, option_map, true, false}
use Rattle.sqlite.specs.Effect.{Database}
use Rattle.sqlite.specs.Files.{file_state}
use Rattle.sqlite.specs.Held.{Held, state}
use Rattle.sqlite.specs.Schema.{Schema}
use Rattle.sqlite.specs.State.{State}
use Rattle.sqlite.specs.declared.file.Leftover.{Leftover}
use Rattle.sqlite_disk.specs.Events.{Event, replay, settled}
use Rattle.sqlite_disk.specs.History.{MayLeave}
use Rattle.sqlite_disk.specs.declared.Disk as disk
use Rattle.sqlite_disk.specs.declared.Files.{Files}
use Rattle.sqlite_pool.proofs.StateLemmas.{clean_is}
use Rattle.sqlite_store.specs.FileStore.{view, files as store_files}
use Rattle.sqlite_store.specs.declared.store.FileStore.{FileStore}
use Rattle.sqlite_trees.proofs.Doubt.{no_doubt}
use Rattle.sqlite_trees.specs.View.{IsClean}
use Rattle.sqlite_trees.specs.declared.store.Store.{Ghosts}
use Rattle.sqlite_wal.specs.Reads.{AreClean}
use Rattle.sqlite_wal.specs.Recovery.{Image}
use Rattle.thes_tables.specs.Tables.{Tables}
use Rattle.thes_sql.specs.Additions.{schema_with}
use Rattle.thes_sql.specs.Schema.{empty_schema}
use Rattle.thes_sql.specs.OldStore.{KeepsOld, old_schema}
use Rattle.thes_sql.specs.StoredRows.{KeepsIn}
use Rattle.thes_sqlite.specs.Causes.{PrecedesOpening}
use Rattle.thes_sqlite.specs.DatabaseFiles.{ClosesFiles, FailsToClose, FailsToOpen, HoldsStore}
use Rattle.thes_sqlite.specs.KeeperView.{IsUp, ServesTables}
use Rattle.thes_sqlite.specs.declared.cause.Cause.{Cause}
use Rattle.thes_jobs.specs.Databases.{ClosesDatabase, FindsLeft, HoldDatabase, HoldImage, KeepsImage, KeepsTables}
use Rattle.thes_jobs.specs.Databases.{OpensFrom, ServesOldTables, files_of_left, was_shut, was_up}

-- A database that was opened in files is the store that they hold.
pub opened_serves : {S : Type 0} (g : Ghosts S) (image : Image) (conn : Held S) → OpensFrom g image conn
    → ServesTables (HoldsStore image) (state g conn)
opened_serves g image conn opens up schema t store =
    let here = opens.opens up in (here.settled, here.serves schema t store)

pub opened_serves_old : {S : Type 0} (g : Ghosts S) (image : Image) (conn : Held S) → OpensFrom g image conn
    → ServesOldTables image (state g conn)
opened_serves_old g image conn opens up t store = let here = opens.opens up in (here.settled, here.serves_old t store)

-- Files whose database can't be opened keep their contents.
pub keeps_image : {D : Type 0} {g : disk.Ghosts D} (image : Image) (AreOpened : Files D → Type 0)
    → ((files : Files D) → AreOpened files → HoldImage g image files) → (cause : Cause)
    → (left : Option (Leftover D g)) → IfSome left (FailsToOpen AreOpened cause)
    → (left ≡ None → PrecedesOpening cause) → KeepsImage g image cause (option_map files_of_left left)
keeps_image image AreOpened hold cause None fails early = early refl
keeps_image image AreOpened hold cause (Some left) fails early = record {
  leftover = left;
  files_are = refl;
  fails = record {
    files = fails.files;
    are_opened = hold fails.files fails.are_opened;
    error = fails.error;
    cause_is = fails.cause_is;
    reason = fails.reason;
    keeps_files = fails.keeps_files;
  };
}

-- If nothing has happened to a file since it was opened, a crash leaves it as it was then.
pub left_as_opened : (log db : List ℕ) (mixes is_log which : Bool) (events : List Event) (key : ℕ) → is_log ≡ which
    → events ≡ settled key ∷ [] → (after : List ℕ) → MayLeave mixes (replay (cond is_log log db) events).seen
    (replay (cond is_log log db) events).synced (replay (cond is_log log db) events).steps after
    → after ≡ cond which log db
left_as_opened log db mixes is_log which events key is only after left =
    let same : (after ≡ cond is_log log db) ⊎ (after ≡ cond is_log log db) =
    subst (λ (e : List Event). MayLeave mixes (replay (cond is_log log db) e).seen
    (replay (cond is_log log db) e).synced (replay (cond is_log log db) e).steps after) only left in
    elim same [
      | inl as_seen ↦ as_seen ∙ ap (λ (b : Bool). cond b log db) is
      | inr as_synced ↦ as_synced ∙ ap (λ (b : Bool). cond b log db) is
    ]

-- Files that were closed hold their database.
pub closed_holds : {D : Type 0} {g : disk.Ghosts D} (conn : Held (FileStore D g)) (files : Files D)
    → ClosesFiles g (file_state conn) files
    → ClosesDatabase (HoldDatabase g (Some files)) (FindsLeft g (Some files)) (file_state conn)
closed_holds conn files closes = was_up closes.was_up closes.sound (inl (closes.holds, closes.crash))

-- If the disk has returned what was written to a store's files, the store is clean.
clean_store : {D : Type 0} {g : disk.Ghosts D} (store : FileStore D g) (files : Files D)
    → (files.log, files.db) ≡ store_files store → AreClean g files.log files.db → IsClean (view store)
clean_store {D} {g} store files is clean =
    no_doubt _ (clean_is store.pool ∙ subst (λ (p : D × D). AreClean g p.0 p.1) is clean)

-- Files whose closing failed hold their database, unless a failure had shut it.
pub unclosed_holds : {D : Type 0} {g : disk.Ghosts D} (conn : Held (FileStore D g)) (store : FileStore D g)
    (files : Files D) → (files.log, files.db) ≡ store_files store
    → (IsClean (view store) → FailsToClose (file_state conn) store) → AreClean g files.log files.db
    → ClosesDatabase (HoldDatabase g (Some files)) (FindsLeft g (Some files)) (file_state conn)
unclosed_holds {D} {g} conn store files is fails clean = by_openness (file_state conn).is_open refl
  where
    failed : FailsToClose (file_state conn) store
    failed = fails (clean_store store files is clean)

    by_openness : (is_open : Bool) → (file_state conn).is_open ≡ is_open
        → ClosesDatabase (HoldDatabase g (Some files)) (FindsLeft g (Some files)) (file_state conn)
    by_openness true opened = was_up (failed.was_clean, opened) (failed.sound opened)
        (inr (record { store = store; files_are = sym is; may = failed.holds opened }))
    by_openness false shut =
        was_shut failed.was_clean shut (record { store = store; files_are = sym is; may = failed.finds })

-- A database that serves the store of its files still does so after a call that keeps its tables.
pub serves_after : (held : Schema → Tables → Type 0) (old new : State) → ServesTables held old → KeepsTables old new
    → ServesTables held new
serves_after held old new serves keeps = λ up schema t was_held.
    keeps up schema t (λ was_up. serves was_up schema t was_held)

-- A database without tables is no store.
no_store : (db : Database) (schema : Schema) (t : Tables) → db.schema ≡ empty_schema → KeepsIn schema db t → ⊥
no_store db schema t none keeps =
    let known = keeps.keeps.schema in
    let same : empty_schema ≡ schema_with known.added = sym none ∙ known.is in
    let lengths : length empty_schema.tables ≡ length (schema_with known.added).tables =
    ap (λ (s : Schema). length s.tables) same in
    omega (arith, lengths)

-- A database without tables is no store of version 1.
pub no_old_store : (db : Database) (t : Tables) → db.schema ≡ empty_schema → KeepsOld db t → ⊥
no_old_store db t none keeps =
    let same : empty_schema ≡ old_schema = sym none ∙ keeps.schema in
    let lengths : length empty_schema.tables ≡ length old_schema.tables =
    ap (λ (s : Schema). length s.tables) same in
    omega (arith, lengths)

-- A call keeps the tables of a database that has none, if a database that is up after the call was up before.
pub keeps_none : (old new : State) → old.now.schema ≡ empty_schema → (IsUp new → IsUp old) → KeepsTables old new
keeps_none old new none was up schema t held = absurd (no_store old.now schema t none (held (was up)).1)
