-- The state of a store before and after a migration.
use Rattle.std.specs.Prelude.{◌≡◌, ◌⊎◌, ℕ, List, Result, Ok, OnOk}
use Rattle.sqlite.specs.Tree.{Trees}
use Rattle.sqlite.specs.Effect.{Database}
use Rattle.sqlite.specs.State.{HasCleanDisk}
use Rattle.sqlite.specs.Held.{Held, state}
use Rattle.sqlite_trees.specs.declared.store.Store.{Ghosts}
use Rattle.thes_base.specs.declared.fault.Fault.{Fault}
use Rattle.thes_base.specs.Legal.{IsLegalState}
use Rattle.thes_base.specs.State.{State}
use Rattle.thes_tables.specs.Tables.{Tables, IsRowsOf}
use Rattle.thes_load_rules.specs.Rules.{state_of}
use Rattle.thes_load_rules.specs.Verdicts.{HasVerdict}
use Rattle.thes_sql.specs.Schema.{store_schema}
use Rattle.thes_sql.specs.StoredRows.{KeepsIn, Hold}
use Rattle.thes_sql.specs.OldStore.{KeepsOld}
use Rattle.thes_tables.specs.OldRows.{IsOldRowsOf}
use Rattle.thes_sqlite.specs.KeeperView.{raw_in}
use Rattle.thes_sqlite.specs.MigrationEffects.{Migrates}

-- The database is a store of version 1, and its tables encode this state in version 1.
abbrev pub HoldsOldState : List ℕ → State → Database → Type 0
HoldsOldState base s db = (t : Tables) × KeepsOld db t × IsOldRowsOf base s t

-- The database is a store of version 2 without additions, and its tables encode this state in version 2.
abbrev pub HoldsState : List ℕ → State → Database → Type 0
HoldsState base s db = (t : Tables) × KeepsIn store_schema db t × IsRowsOf base s t

-- The trees found after a crash hold tables that encode this state in version 2.
abbrev pub FindsState : List ℕ → State → Trees → Type 0
FindsState base s db = (t : Tables) × Hold db t × IsRowsOf base s t

-- The outcome of migrating a store of version 1 whose tables encode a state.
pub record MigratesState {S : Type 0} (g : Ghosts S) (base : List ℕ) (s : State) (old new : Held S) (r : Result ℕ Fault)
    : Type 0 where
  -- After success the database holds the same state, and it is committed.
  pub holds : OnOk r (HoldsState base s (state g new).now × HoldsState base s (state g new).committed)
  -- After success the rows of a legal state load, and yield this state.
  pub loads : OnOk r (IsLegalState base s → (t : Tables) × HasVerdict (raw_in (state g new).now.trees) (Ok t)
      × (state_of t ≡ s))
  -- A crash leaves what it could leave before the call, or the migrated rows.
  pub crash : (db : Trees) → (state g new).may_leave db → (state g old).may_leave db ⊎ FindsState base s db

-- A migration that succeeds takes a store whose tables encode a state in version 1 to one whose tables encode it in
-- version 2, if the disk hasn't failed silently.
abbrev pub MigratesStates : {S : Type 0} → Ghosts S → Type 0
MigratesStates {S} g =
    (base : List ℕ) (s : State) (old new : Held S) (r : Result ℕ Fault) → Migrates g old new r
    → HasCleanDisk (state g new)
    → HoldsOldState base s (state g old).now → MigratesState g base s old new r
