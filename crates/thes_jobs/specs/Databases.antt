-- The databases of stores from opening to closing, and what their files hold afterwards.
use Rattle.std.specs.Prelude.{◌≡◌, ◌⊎◌, ℕ, List, IfSome, IsSomeAnd, MatchOption, Option, Some, None, false}
use Rattle.sqlite.specs.Closing.{files_left}
use Rattle.sqlite.specs.Effect.{Database, IsDatabase}
use Rattle.sqlite.specs.Files.{HoldsDatabase, file_state, image_of}
use Rattle.sqlite.specs.Held.{Held, state}
use Rattle.sqlite.specs.Schema.{Schema}
use Rattle.sqlite.specs.State.{State, HasCleanDisk}
use Rattle.sqlite.specs.Tree.{Trees}
use Rattle.sqlite.specs.declared.file.Leftover.{Leftover}
use Rattle.sqlite_disk.specs.declared.Disk as disk
use Rattle.sqlite_disk.specs.declared.Files.{Files}
use Rattle.sqlite_store.specs.FileStore.{recovers, files as store_files}
use Rattle.sqlite_store.specs.declared.store.FileStore.{FileStore}
use Rattle.sqlite_trees.specs.declared.store.Store.{Ghosts}
use Rattle.sqlite_wal.specs.Files.{outcomes}
use Rattle.sqlite_wal.specs.Reads.{AreClean}
use Rattle.sqlite_wal.specs.Recovery.{Image}
use Rattle.thes_tables.specs.Tables.{Tables}
use Rattle.thes_sql.specs.OldStore.{KeepsOld}
use Rattle.thes_sql.specs.StoredRows.{KeepsIn}
use Rattle.thes_sqlite.specs.Causes.{PrecedesOpening}
use Rattle.thes_sqlite.specs.DatabaseFiles.{FailsToOpen, IsInitialStore, HoldsOldStore, HoldsStore, OpensFiles}
use Rattle.thes_sqlite.specs.KeeperView.{IsUp, ServesTables}
use Rattle.thes_sqlite.specs.declared.cause.Cause.{Cause}

-- A call keeps the tables of a store: if the database was this store before, and nothing in it was uncommitted, the
-- same is true afterwards, if it is up.
abbrev pub KeepsTables : State → State → Type 0
KeepsTables old new = IsUp new → (schema : Schema) (t : Tables)
    → (IsUp old → (old.now ≡ old.committed) × KeepsIn schema old.now t)
    → (new.now ≡ new.committed) × KeepsIn schema new.now t

-- If a call leaves the database up, the database was up before, and nothing in it is uncommitted if nothing was before.
pub record Settles (old new : State) : Type 0 where
  pub was : IsUp new → IsUp old
  pub is_settled : IsUp new → old.now ≡ old.committed → new.now ≡ new.committed

-- The database of a connection was closed. If it was open, `holds` is true of it as it was last committed. If a failure
-- had shut it, `finds` is true of its state: what may be found of it is what could be found before.
pub data ClosesDatabase (holds : Database → Type 0) (finds : State → Type 0) (s : State) : Type 0 where
  was_up : IsUp s → IsDatabase s.committed → holds s.committed → ClosesDatabase holds finds s
  was_shut : HasCleanDisk s → s.is_open ≡ false → finds s → ClosesDatabase holds finds s

-- If there is a connection, its database was closed, and its files are left, of which this is true if they are clean.
abbrev pub ClosesIfOpen : {S C : Type 0} → Ghosts S → (C → Type 0) → (C → Database → Type 0) → (C → State → Type 0)
    → Option (Held S) → Option C → Type 0
ClosesIfOpen g is_clean holds finds conn files = MatchOption conn (files ≡ None) (λ conn. IsSomeAnd files (λ files.
    is_clean files → ClosesDatabase (holds files) (finds files) (state g conn)))

-- A database of which `holds` is true is a store with this schema and these tables.
pub record HoldsTables (holds : Database → Type 0) (schema : Schema) (t : Tables) : Type 0 where
  pub database : Database
  pub sound : IsDatabase database
  pub held : holds database
  pub keeps : KeepsIn schema database t

-- A database of which `holds` is true is a store of version 1 with these tables.
pub record HoldsOldTables (holds : Database → Type 0) (t : Tables) : Type 0 where
  pub database : Database
  pub held : holds database
  pub keeps : KeepsOld database t

-- If files with these contents held a store of version 1, and the database is up, it is this store, and nothing in it
-- is uncommitted.
abbrev pub ServesOldTables : Image → State → Type 0
ServesOldTables image s = IsUp s → (t : Tables) → HoldsOldStore image t → (s.now ≡ s.committed) × KeepsOld s.now t

module _ {S : Type 0} (g : Ghosts S) (image : Image) where
  -- A connection was opened in files with these contents, which may be anything: it is in no transaction and, if it is
  -- up, `OpensFiles` is true of its database.
  pub record OpensFrom (conn : Held S) : Type 0 where
    pub idle : conn.in_transaction ≡ false
    pub opens : IsUp (state g conn) → OpensFiles image (state g conn)

  -- A connection is ready for work with this base: it is in no transaction, and its database is the store with which
  -- the work begins.
  pub record IsReadyConnection (base : List ℕ) (conn : Held S) : Type 0 where
    pub idle : conn.in_transaction ≡ false
    pub serves : ServesTables (IsInitialStore image base) (state g conn)

  -- If there is a connection, and its files held a store, its database is this store.
  abbrev pub ServesIfOpen : Option (Held S) → Type 0
  ServesIfOpen left = IfSome left (λ conn. ServesTables (HoldsStore image) (state g conn)
      × ServesOldTables image (state g conn))

-- The files hold these contents, also after a crash.
pub record HoldImage {D : Type 0} (g : disk.Ghosts D) (image : Image) (files : Files D) : Type 0 where
  pub reads : image_of g files ≡ image
  pub crash : (after : Image) → outcomes g files.log files.db after → after ≡ image

-- The two files in what a failed opening has left.
abbrev pub files_of_left : {D : Type 0} {g : disk.Ghosts D} → Leftover D g → Files D
files_of_left left = record { log = (files_left left).0; db = (files_left left).1 }

-- An opening of files with these contents failed for this cause, and left `files`, which have the same contents.
pub record AreUnopened {D : Type 0} (g : disk.Ghosts D) (image : Image) (cause : Cause) (files : Files D) : Type 0 where
  pub leftover : Leftover D g
  pub files_are : files ≡ files_of_left leftover
  pub fails : FailsToOpen (HoldImage g image) cause leftover

-- Files whose database can't be opened keep these contents, unless the disk fails silently. `FailsToOpen` says how, and
-- ties the cause to what is left of the files. If none are left, they weren't opened, and the cause isn't one that is
-- found in files.
abbrev pub KeepsImage : {D : Type 0} → (g : disk.Ghosts D) → Image → Cause → Option (Files D) → Type 0
KeepsImage g image cause None = PrecedesOpening cause
KeepsImage g image cause (Some files) = AreUnopened g image cause files

-- The disk has returned what was written to the files.
abbrev pub AreCleanFiles : {D : Type 0} → disk.Ghosts D → Option (Files D) → Type 0
AreCleanFiles g None = Unit {0}
AreCleanFiles g (Some files) = AreClean g files.log files.db

-- Closed files hold this database, as they read now and whatever a crash leaves of them.
abbrev pub HoldsClosed : {D : Type 0} → disk.Ghosts D → Files D → Database → Type 0
HoldsClosed g files database = ∥ HoldsDatabase (image_of g files) database.trees ∥₁
    × ((image : Image) → outcomes g files.log files.db image → ∥ HoldsDatabase image database.trees ∥₁)

-- The next opening finds in these files, also after a crash, only trees of which `May` is true. They are the files of a
-- store that couldn't be closed.
pub record FindsUnclosed {D : Type 0} (g : disk.Ghosts D) (files : Files D) (May : Trees → Type 0) : Type 0 where
  pub store : FileStore D g
  pub files_are : store_files store ≡ (files.log, files.db)
  pub may : (db : Trees) → recovers store db → May db

-- The files hold this database, as they read now and whatever a crash leaves of them. If closing them failed, it is the
-- only one that the next opening may find.
abbrev pub HoldDatabase : {D : Type 0} → disk.Ghosts D → Option (Files D) → Database → Type 0
HoldDatabase g None database = ⊥
HoldDatabase g (Some files) database =
    HoldsClosed g files database ⊎ FindsUnclosed g files (λ db. db ≡ database.trees)

-- Closing the files failed, and the next opening finds in them only what this state says that a crash may leave.
abbrev pub FindsLeft : {D : Type 0} → disk.Ghosts D → Option (Files D) → State → Type 0
FindsLeft g None s = ⊥
FindsLeft g (Some files) s = FindsUnclosed g files s.may_leave

-- A connection was closed, and its files are left. If these are clean, they hold its database.
abbrev pub ClosesFrom : {D : Type 0} → (g : disk.Ghosts D) → Held (FileStore D g) → Files D → Type 0
ClosesFrom g conn files = AreClean g files.log files.db
    → ClosesDatabase (HoldDatabase g (Some files)) (FindsLeft g (Some files)) (file_state conn)
