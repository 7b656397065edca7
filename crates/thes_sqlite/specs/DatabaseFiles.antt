-- Stores in the two files of a database: what opening finds, and what a failed opening and closing leave.
use Rattle.std.specs.Prelude.{◌≡◌, ◌⊎◌, ℕ, List, [], IsTrue}
use Rattle.sqlite_disk.specs.declared.Disk.{Ghosts}
use Rattle.sqlite_disk.specs.declared.Files.{Files}
use Rattle.sqlite_wal.specs.Recovery.{Image}
use Rattle.sqlite_wal.specs.Files.{outcomes}
use Rattle.sqlite.specs.Effect.{Database, IsDatabase}
use Rattle.sqlite.specs.Files.{FailsToOpenFiles, HoldsDatabase, IsCleanLeft, LeavesFiles, image_of}
use Rattle.sqlite.specs.Schema.{Schema}
use Rattle.sqlite.specs.Start.{FindsIn}
use Rattle.sqlite.specs.State.{State, HasCleanDisk}
use Rattle.sqlite.specs.Tree.{Trees}
use Rattle.sqlite.specs.declared.error.Error.{Error}
use Rattle.sqlite.specs.declared.file.Leftover.{Leftover}
use Rattle.sqlite_store.specs.FileStore.{recovers}
use Rattle.sqlite_store.specs.declared.store.FileStore.{FileStore}
use Rattle.thes_tables.specs.Tables.{Tables, empty_tables}
use Rattle.thes_sql.specs.Schema.{empty_schema, store_schema}
use Rattle.thes_sql.specs.StoredRows.{KeepsIn}
use Rattle.thes_sql.specs.OldStore.{KeepsOld}
use Rattle.thes_sqlite.specs.Causes.{opening_cause}
use Rattle.thes_sqlite.specs.KeeperView.{IsUp}
use Rattle.thes_sqlite.specs.declared.cause.Cause.{Cause}

-- The contents of the two files are a database that is a store with this schema and these tables.
pub record HoldsStore (image : Image) (schema : Schema) (t : Tables) : Type 0 where
  pub database : Database
  pub files_hold : ∥ HoldsDatabase image database.trees ∥₁
  pub sound : IsDatabase database
  pub keeps : KeepsIn schema database t

-- The contents of the two files are a database that is a store of version 1 with these tables.
pub record HoldsOldStore (image : Image) (t : Tables) : Type 0 where
  pub database : Database
  pub files_hold : ∥ HoldsDatabase image database.trees ∥₁
  pub sound : IsDatabase database
  pub keeps : KeepsOld database t

-- The file of a database is absent or empty, whatever its log holds.
abbrev pub IsNewFile : Image → Type 0
IsNewFile image = image.db ≡ []

-- Work with this base over files with these contents begins with a store with this schema and these tables: the one
-- that the files hold, or, in a new file, an empty one as the program makes it.
abbrev pub IsInitialStore : Image → List ℕ → Schema → Tables → Type 0
IsInitialStore image base schema t =
    HoldsStore image schema t ⊎ (IsNewFile image × (schema ≡ store_schema) × (t ≡ empty_tables base))

-- The database is a store with this schema, and nothing in it is uncommitted. Its tables are these if files with these
-- contents hold them.
pub record ServesInitial (image : Image) (schema : Schema) (t : Tables) (s : State) : Type 0 where
  pub settled : s.now ≡ s.committed
  pub tables : Tables
  pub keeps : KeepsIn schema s.now tables
  pub keeps_held : HoldsStore image schema t → KeepsIn schema s.now t

-- If the disk hasn't failed silently and the database is open, it is the store that files with these contents hold or,
-- if they are new, one as the program makes it.
unfoldable pub ServesFiles : Image → State → Type 0
ServesFiles image s = IsUp s → (base : List ℕ) (schema : Schema) (t : Tables) → IsInitialStore image base schema t
    → ServesInitial image schema t s

-- A database was opened in files with these contents, which may be anything. Nothing in it is uncommitted. If they are
-- a store, of version 2 or 1, the database is this store. In a new file it has no tables.
pub record OpensFiles (image : Image) (s : State) : Type 0 where
  pub finds : FindsIn image s
  pub settled : s.now ≡ s.committed
  pub serves : (schema : Schema) (t : Tables) → HoldsStore image schema t → KeepsIn schema s.now t
  pub serves_old : (t : Tables) → HoldsOldStore image t → KeepsOld s.now t
  pub empty : IsNewFile image → s.now.schema ≡ empty_schema

-- A failed opening keeps what the files hold, unless the disk fails silently. Whatever a crash leaves of them is read
-- as the same database or, where there was none, as an empty one. The cause follows from an error of the database, for
-- which the library's contract gives a reason, and from how far the opening got. `AreOpened` says how the files were
-- opened.
pub record FailsToOpen {D : Type 0} {g : Ghosts D} (AreOpened : Files D → Type 0) (cause : Cause) (rest : Leftover D g)
    : Type 0 where
  pub files : Files D
  pub are_opened : AreOpened files
  pub error : Error
  pub cause_is : cause ≡ opening_cause error rest
  pub reason : IsCleanLeft rest → FailsToOpenFiles files rest error
  pub keeps_files : IsCleanLeft rest → LeavesFiles files rest

-- The files were closed. They hold the database as it was last committed, as they read now and whatever a crash leaves
-- of them.
pub record ClosesFiles {D : Type 0} (g : Ghosts D) (s : State) (files : Files D) : Type 0 where
  pub was_up : IsUp s
  pub sound : IsDatabase s.committed
  pub holds : ∥ HoldsDatabase (image_of g files) s.committed.trees ∥₁
  pub crash : (image : Image) → outcomes g files.log files.db image → ∥ HoldsDatabase image s.committed.trees ∥₁

-- A database couldn't be closed, and `rest` is the part of its connection that has the files. The next opening finds in
-- them only what it could have found before, also after a crash; if the database was open, that is the database as it
-- was last committed.
pub record FailsToClose {D : Type 0} {g : Ghosts D} (s : State) (rest : FileStore D g) : Type 0 where
  pub was_clean : HasCleanDisk s
  pub finds : (db : Trees) → recovers rest db → s.may_leave db
  pub sound : IsTrue s.is_open → IsDatabase s.committed
  pub holds : IsTrue s.is_open → (db : Trees) → recovers rest db → db ≡ s.committed.trees
