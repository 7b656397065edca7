-- The effect of a commit through the storage, on a database that may hold anything.
use Rattle.std.specs.Prelude.{◌≡◌, List, Result, OnOk, OnErr}
use Rattle.sqlite.specs.Held.{Held, state}
use Rattle.sqlite.specs.State.{State, HasCleanDisk}
use Rattle.sqlite.specs.Tree.{Trees}
use Rattle.sqlite_trees.specs.declared.store.Store.{Ghosts}
use Rattle.thes_base.specs.declared.fault.Fault.{Fault}
use Rattle.thes_tables.specs.declared.change.Change.{Change}
use Rattle.thes_tables.specs.Rows.{tables_after_delta, DeltaFits}
use Rattle.thes_tables.specs.Tables.{Tables}
use Rattle.thes_sql.specs.Additions.{LeavesUserTables}
use Rattle.thes_sql.specs.StoredRows.{Hold, Keeps}
use Rattle.thes_store.specs.Storage.{CommitFrame}
use Rattle.thes_sqlite.specs.KeeperView.{KeeperView, IsUp, IsStore, LeavesEither, LeavesAfter, storage_view}
use Rattle.thes_sqlite.specs.MigrationEffects.{LeavesUnwritten}

-- The changes were made: if the database was a store with tables that they fit, and the disk hasn't failed silently, it
-- is now a store with the tables after all changes, and what is committed has a user's tables as they were, but for
-- those with foreign keys.
abbrev pub AppliesAll : {S : Type 0} → Ghosts S → List Change → Held S → Held S → Type 0
AppliesAll g changes old new = HasCleanDisk (state g new) → (t : Tables) → Keeps (state g old).now t
    → DeltaFits changes t
    → Keeps (state g new).now (tables_after_delta changes t)
    × LeavesUserTables (state g old).now.schema (state g old).now.trees (state g new).committed.trees

-- The effect of every commit on any database: one that is up afterwards was up before, and nothing in it is
-- uncommitted; a fault leaves it unwritten.
pub record DatabaseFrame {S T E : Type 0} (g : Ghosts S) (old new : Held S) (result : Result T E) : Type 0 where
  pub was : IsUp (state g new) → IsUp (state g old)
  pub settled : IsUp (state g new) → (state g new).now ≡ (state g new).committed
  pub none : OnErr result (LeavesUnwritten g old new)

-- The effect of every commit, whatever the database holds: after a fault that leaves the database up, it and its rows
-- are unchanged; the count of failures agrees with the result; the connection `first` stays the same.
pub record KeeperCommitFrame {S T : Type 0} (g : Ghosts S) (old new : KeeperView S) (result : Result T Fault) : Type 0
  where
    pub storage : CommitFrame (storage_view g old) (storage_view g new) result
    pub database : DatabaseFrame g old.conn new.conn result
    pub first : new.first ≡ old.first

-- If the database was an open store, and the disk hasn't failed silently, a crash leaves the tables without the changes
-- or with all of them; after success, if the database is open, with all.
pub record IsCrashSafe {S T E : Type 0} (g : Ghosts S) (changes : List Change) (old new : KeeperView S)
    (result : Result T E) : Type 0 where
  pub atomicity : IsStore (state g old.first) → LeavesEither changes (state g old.conn) (state g new.conn)
  pub durability : OnOk result (IsStore (state g old.first)
      → LeavesAfter changes (state g old.conn) (state g new.conn))

-- The trees hold tables with all the changes, and a user's tables as they were, but for those with foreign keys, if the
-- database was a store with tables that the changes fit.
abbrev pub MakesAll : List Change → State → Trees → Type 0
MakesAll changes s trees = (t : Tables) → Keeps s.now t → DeltaFits changes t
    → Hold trees (tables_after_delta changes t) × LeavesUserTables s.now.schema s.now.trees trees

-- No trees are made.
abbrev pub MakesNone : State → Trees → Type 0
MakesNone s trees = ⊥
