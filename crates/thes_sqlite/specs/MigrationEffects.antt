-- Defines which databases are migrated, and the effect of a migration on them.
use Rattle.std.specs.Prelude.{◌≡◌, ◌⊎◌, ◌≤◌, ◌<◌, ℕ, List, [], ◌∷◌, map, true, false, Bool, Option, Some, None, Result}
use Rattle.std.specs.Prelude.{Ok, Err, OnOk, OnErr, IfOk, IfErr, IsErrAnd, IsTrue, if◌then◌else◌}
use Rattle.sqlite.specs.Order.{Row}
use Rattle.sqlite.specs.Effect.{Database}
use Rattle.sqlite.specs.Schema.{Schema}
use Rattle.sqlite.specs.State.{State, HasCleanDisk, Survives}
use Rattle.sqlite.specs.Held.{Held, state}
use Rattle.sqlite.specs.declared.error.Error.{Error}
use Rattle.sqlite_trees.specs.declared.store.Store.{Ghosts}
use Rattle.thes_base.specs.declared.fault.Fault.{Fault}
use Rattle.thes_base.specs.declared.fault.Fault.TheVariants.{OutOfMemory, Store, BadStore, NewerStore}
use Rattle.thes_base.specs.declared.fault.Table.TheVariants as table
use Rattle.thes_store.specs.Causes.{max_failures}
use Rattle.thes_tables.specs.declared.cells.Cell.{Cell}
use Rattle.thes_tables.specs.Tables.{Tables}
use Rattle.thes_tables.specs.Cells.{Raw, number_cell, cells_of_tables}
use Rattle.thes_sql.specs.Schema.{store_schema}
use Rattle.thes_sql.specs.StoredRows.{Keeps, KeepsIn, Hold}
use Rattle.thes_sql.specs.Reads.{read_text, LeavesAlone}
use Rattle.thes_sql.specs.Queries.{compiles, Finds, finds_nothing, KeepsDatabase}
use Rattle.thes_sql.specs.OldStore.{KeepsOld, links_text, hier_text}
use Rattle.thes_tables.specs.OldRows.{tables_after_migration}
use Rattle.thes_sqlite.specs.KeeperView.{IsUp, KeeperView, IsKeeperUp, raw_of_keeper}
use Rattle.thes_sqlite.specs.Faults.{IsKeeperFault, HasFailed, error_fault}
use Rattle.thes_sqlite.specs.ValueCells.{cell_of}

-- The fault is one that a migration returns: OutOfMemory, Store, NewerStore, or BadStore of meta, link or hier.
abbrev pub IsMigrateFault : Fault → Type 0
IsMigrateFault fault =
    (fault ≡ OutOfMemory) ⊎ ((fault ≡ Store) ⊎ ((fault ≡ NewerStore) ⊎ ((fault ≡ BadStore table.Meta)
    ⊎ ((fault ≡ BadStore table.Link) ⊎ (fault ≡ BadStore table.Hier)))))

-- The cells are those of a row of table meta with this version, whatever its base.
abbrev pub IsVersionRow : ℕ → List Cell → Type 0
IsVersionRow version cells = (base : Cell) × (cells ≡ number_cell 1 ∷ number_cell version ∷ base ∷ [])

-- Table meta has a single row, whose version satisfies `Is`.
abbrev pub HasMetaVersion : (ℕ → Type 0) → Option (List Row) → Type 0
HasMetaVersion Is None = ⊥
HasMetaVersion Is (Some rows) = (row : Row) × (rows ≡ row ∷ []) × (version : ℕ) × Is version
    × IsVersionRow version (map cell_of row)

-- The verdict on the rows of table meta: `true` for version 1, `false` for version 2, or a fault for a newer version or
-- none.
abbrev pub IsMetaVerdict : Option (List Row) → Result Bool Fault → Type 0
IsMetaVerdict found (Ok true) = HasMetaVersion (λ version. version ≡ 1) found
IsMetaVerdict found (Ok false) = HasMetaVersion (λ version. version ≡ 2) found
IsMetaVerdict found (Err NewerStore) = HasMetaVersion (λ version. 2 < version) found
IsMetaVerdict found (Err (BadStore table.Meta)) = HasMetaVersion (λ version. 1 ≤ version) found → ⊥
IsMetaVerdict found (Err _) = ⊥

-- The verdict on the tables of links: Ok if they are as in version 1, that is, table link can be
-- queried and there is no table hier. Otherwise the fault names the first table that differs.
abbrev pub IsLinkVerdict : Schema → Result (Unit {0}) Fault → Type 0
IsLinkVerdict schema (Ok done) = (compiles schema links_text ≡ true) × (compiles schema hier_text ≡ false)
IsLinkVerdict schema (Err (BadStore table.Link)) = compiles schema links_text ≡ false
IsLinkVerdict schema (Err (BadStore table.Hier)) =
    (compiles schema links_text ≡ true) × (compiles schema hier_text ≡ true)
IsLinkVerdict schema (Err _) = ⊥

-- The verdict on a database by its table meta and its schema: `true` if it is to be migrated, `false` if it has version
-- 2, or the first of its faults. The tables of links are checked only in a database of version 1.
abbrev pub IsVerdictOn : Schema → Option (List Row) → Result Bool Fault → Type 0
IsVerdictOn schema found (Ok true) = IsMetaVerdict found (Ok true) × IsLinkVerdict schema (Ok tt)
IsVerdictOn schema found (Err (BadStore table.Link)) =
    IsMetaVerdict found (Ok true) × IsLinkVerdict schema (Err (BadStore table.Link))
IsVerdictOn schema found (Err (BadStore table.Hier)) =
    IsMetaVerdict found (Ok true) × IsLinkVerdict schema (Err (BadStore table.Hier))
IsVerdictOn schema found other = IsMetaVerdict found other

-- The verdict on the version of a database.
abbrev pub IsVersionVerdict : Database → Result Bool Fault → Type 0
IsVersionVerdict db r = (found : Option (List Row)) × Finds (read_text table.Meta) db found × IsMetaVerdict found r

-- The verdict on a database, by the rows of table meta that a query finds, and by its schema.
abbrev pub IsMigrationVerdict : Database → Result Bool Fault → Type 0
IsMigrationVerdict db r = (found : Option (List Row)) × Finds (read_text table.Meta) db found
    × IsVerdictOn db.schema found r

-- If the disk hasn't failed silently, the result is the verdict on the database, unless the store has failed.
abbrev pub IsVerdictUnlessFailed : {S V : Type 0} → Ghosts S → (Database → Result V Fault → Type 0) → Held S → Held S
    → Result V Fault → Type 0
IsVerdictUnlessFailed g Is old new r =
    HasCleanDisk (state g new) → IsErrAnd r (HasFailed (state g old) (state g new)) ⊎ Is (state g old).now r

-- The effect of every check for a migration: success keeps the database and what is committed of it, no result changes
-- a database in which nothing is uncommitted, and a fault is one that a migration returns.
pub record VerdictFrame {S V : Type 0} (g : Ghosts S) (old new : Held S) (r : Result V Fault) : Type 0 where
  pub database : KeepsDatabase g old new r
  pub effect : LeavesAlone g old new
  pub fault : IfErr r IsMigrateFault

-- The fault for an error of the query for table meta.
abbrev pub meta_fault_of : Error → Fault
meta_fault_of e = if finds_nothing e then BadStore table.Meta else error_fault e

-- The verdict on the answer to whether table link can be queried: `BadStore` of link if it can't.
abbrev pub links_verdict_of : Result Bool Error → Result (Unit {0}) Fault
links_verdict_of (Ok true) = Ok tt
links_verdict_of (Ok false) = Err (BadStore table.Link)
links_verdict_of (Err e) = Err (error_fault e)

-- The verdict on the answer to whether there is a table hier: `BadStore` of hier if there is one.
abbrev pub hier_verdict_of : Result Bool Error → Result (Unit {0}) Fault
hier_verdict_of (Ok true) = Err (BadStore table.Hier)
hier_verdict_of (Ok false) = Ok tt
hier_verdict_of (Err e) = Err (error_fault e)

-- The database is a store of version 1, or one of version 2, perhaps with a user's additions.
abbrev pub IsKnownStore : Database → Tables → Type 0
IsKnownStore db t = KeepsOld db t ⊎ Keeps db t

-- Neither the database nor what is committed of it has changed.
abbrev pub IsUnwritten : State → State → Type 0
IsUnwritten old new = (new.now ≡ old.now) × (new.committed ≡ old.committed)

-- If a call leaves the database up, the database was up before, and neither it nor what is committed of it has changed.
abbrev pub LeavesUnwritten : {S : Type 0} → Ghosts S → Held S → Held S → Type 0
LeavesUnwritten g old new = IsUp (state g new) → IsUp (state g old) × IsUnwritten (state g old) (state g new)

-- Of all faults only Store is counted; the count of failures saturates.
abbrev pub IsStoreCounted : ℕ → ℕ → Fault → Type 0
IsStoreCounted before now Store = (before < now) ⊎ ((before ≡ max_failures) × (now ≡ before))
IsStoreCounted before now other = now ≡ before

-- A migration that succeeds leaves the count of failures unchanged, and a fault Store is counted.
abbrev pub HasCountedCause : ℕ → ℕ → Result ℕ Fault → Type 0
HasCountedCause before now (Ok version) = now ≡ before
HasCountedCause before now (Err fault) = IsStoreCounted before now fault

-- The storage serves these rows, in a database with this schema.
pub record ServesRows {S : Type 0} (g : Ghosts S) (k : KeeperView S) (schema : Schema) (rows : Raw) : Type 0 where
  pub is_up : IsKeeperUp g k
  pub schema_is : (state g k.first).now.schema ≡ schema
  pub rows_are : raw_of_keeper g k ≡ rows

-- The database of version 1 has become one of version 2 without additions, with the migrated tables, which the storage
-- serves.
abbrev pub ServesMigrated : {S : Type 0} → Ghosts S → KeeperView S → KeeperView S → Type 0
ServesMigrated g old new = IsUp (state g new.conn) → (t : Tables) → KeepsOld (state g old.conn).now t
    → ServesRows g new store_schema (cells_of_tables (tables_after_migration t))

-- The tables that the storage serves after a migration: those of a store of version 2 stay as they were, also with a
-- user's additions; those of version 1 are migrated.
pub record ServesAfterMigration {S : Type 0} (g : Ghosts S) (old new : KeeperView S) (r : Result ℕ Fault) : Type 0 where
  pub current : IsKeeperUp g old → IsUp (state g new.conn) → IsUp (state g old.first)
      × ServesRows g new (state g old.first).now.schema (raw_of_keeper g old)
  pub older : OnOk r (ServesMigrated g old new)

-- The result that follows from a verdict: a database of version 1 is migrated, unless a statement
-- fails; one of version 2 is unchanged; any other is refused.
abbrev pub Follows : Result Bool Fault → State → State → Result ℕ Fault → Type 0
Follows (Ok true) old new r = IfErr r IsKeeperFault
Follows (Ok false) old new r = (r ≡ Ok 2) × IsUnwritten old new
Follows (Err fault) old new r = r ≡ Err fault

-- The migration of a database, which may hold anything.
pub record Migrates {S : Type 0} (g : Ghosts S) (old new : Held S) (r : Result ℕ Fault) : Type 0 where
  pub idle : new.in_transaction ≡ false
  pub version : IfOk r (λ version. version ≡ 2)
  pub faults : IfErr r IsMigrateFault
  -- If the disk hasn't failed silently, the result follows from the verdict on the database, unless the store has
  -- failed.
  pub follows : HasCleanDisk (state g new) → IsErrAnd r (HasFailed (state g old) (state g new))
      ⊎ ((verdict : Result Bool Fault) × IsMigrationVerdict (state g old).now verdict
      × Follows verdict (state g old) (state g new) r)
  -- If the disk hasn't failed silently, the migration of a store of version 1 or 2 has no fault but OutOfMemory and
  -- Store.
  pub whole : IfErr r (λ fault. HasCleanDisk (state g new) → (t : Tables) → IsKnownStore (state g old).now t
      → IsKeeperFault fault)
  pub was : IsUp (state g new) → IsTrue (state g old).is_open
  pub made : OnOk r (HasCleanDisk (state g new) → (t : Tables) → KeepsOld (state g old).now t
      → KeepsIn store_schema (state g new).committed (tables_after_migration t)
      × KeepsIn store_schema (state g new).now (tables_after_migration t))
  pub current : OnOk r (HasCleanDisk (state g new) → (t : Tables) → Keeps (state g old).now t
      → IsUnwritten (state g old) (state g new))
  pub settled : IsUp (state g new) → (state g new).now ≡ (state g new).committed
  -- If the database is up after a fault, neither it nor what is committed of it has changed.
  pub none : OnErr r (IsUp (state g new) → IsUnwritten (state g old) (state g new))
  -- If the disk hasn't failed silently, then whatever the result, a crash leaves what it could have left before the
  -- call or, if the database was to be migrated, the migrated tables.
  pub crash : Survives (state g old) (state g new) (λ trees. IsMigrationVerdict (state g old).now (Ok true)
      × ((t : Tables) → KeepsOld (state g old).now t → Hold trees (tables_after_migration t)))
