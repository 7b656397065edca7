-- The effects of calls inside a transaction, and of whole transactions.
use Rattle.std.specs.Prelude.{◌≡◌, ◌⊎◌, ℕ, List, [], Bool, true, false, Result, Ok, Err, OnOk, OnErr, IfOk, IsTrue}
use Rattle.std.specs.List.{AllByRecursion}
use Rattle.std.specs.Borrow.{MutBor}
use Rattle.sqlite.specs.Effect.{Database}
use Rattle.sqlite.specs.Schema.{Schema}
use Rattle.sqlite.specs.Table.{Table}
use Rattle.sqlite.specs.declared.error.Error.TheVariants.{SqlInputError}
use Rattle.sqlite.specs.State.{State, HasCleanDisk, KeepsCommit, Survives, Executes}
use Rattle.sqlite_resolve.specs.declared.error.CompileError.{CompileError}
use Rattle.sqlite_catalog.specs.Change.{KeepsRows}
use Rattle.sqlite.specs.Held.{Held, state}
use Rattle.sqlite_trees.specs.declared.store.Store.{Ghosts}
use Rattle.thes_tables.specs.declared.change.Change.{Change}
use Rattle.thes_tables.specs.Tables.{Tables}
use Rattle.thes_tables.specs.Rows.{tables_after_change, tables_after_delta, ChangeFits, DeltaFits}
use Rattle.thes_sql.specs.Additions.{LeavesUserTables}
use Rattle.thes_sql.specs.StoredRows.{Keeps, KeepsIn}

-- The call applies the change: a store with tables that the change fits becomes one with the tables after the change,
-- and with the same schema and user's tables.
pub record AppliesChange (change : Change) (old new : State) : Type 0 where
  pub rows : (t : Tables) → Keeps old.now t → ChangeFits change t
      → KeepsIn old.now.schema new.now (tables_after_change change t)
      × LeavesUserTables old.now.schema old.now.trees new.now.trees
  pub inside : IsTrue new.in_transaction
  pub is_open : IsTrue new.is_open

-- The call applies the changes: a store with tables that they fit becomes one with the tables after all of them, and
-- with the same schema and user's tables.
pub record AppliesChanges (changes : List Change) (old new : State) : Type 0 where
  pub rows : (t : Tables) → Keeps old.now t → DeltaFits changes t
      → KeepsIn old.now.schema new.now (tables_after_delta changes t)
      × LeavesUserTables old.now.schema old.now.trees new.now.trees
  pub inside : IsTrue new.in_transaction

-- A prefix of the changes was applied; the others, `left`, are still to be applied.
pub record IsUnderWay (changes left : List Change) (old now : State) : Type 0 where
  pub rows : (t : Tables) → Keeps old.now t → DeltaFits changes t → (mid : Tables)
      × KeepsIn old.now.schema now.now mid
      × DeltaFits left mid
      × (tables_after_delta left mid ≡ tables_after_delta changes t)
      × LeavesUserTables old.now.schema old.now.trees now.now.trees
  pub inside : IsTrue now.in_transaction

-- The database has this schema, and its tables have no rows.
abbrev pub IsEmpty : Schema → Database → Type 0
IsEmpty schema db = (db.schema ≡ schema) × AllByRecursion (λ (t : Table). db.trees t.tree ≡ []) schema.tables

-- The call leads from each database that satisfies `From` to one that satisfies `To`.
pub record Transforms (From To : Database → Type 0) (old new : State) : Type 0 where
  pub made : From old.now → To new.now
  pub inside : IsTrue new.in_transaction

-- The call leads from each database that satisfies `From` for some tables to one that satisfies
-- `To` for the same tables.
pub record TransformsTables (From To : Tables → Database → Type 0) (old new : State) : Type 0 where
  pub made : (t : Tables) → From t old.now → To t new.now
  pub inside : IsTrue new.in_transaction

-- If the schema is `from`, the call extends it to `to`, leaves the rows of its tables unchanged, and creates the trees
-- with the numbers `fresh`, which are empty.
pub record ExtendsSchema (from to : Schema) (fresh : List ℕ) (old new : State) : Type 0 where
  pub made : old.now.schema ≡ from → (new.now.schema ≡ to) × KeepsRows from.tables old.now.trees new.now.trees
      × AllByRecursion (λ tree. new.now.trees tree ≡ []) fresh
  pub inside : IsTrue new.in_transaction

-- The statement without parameters ran, or it failed to compile.
pub record RunsOrFailsToCompile (text : List ℕ) (old new : State) : Type 0 where
  pub ran : ((count : ℕ) × Executes text [] old new (Ok count))
      ⊎ ((fault : CompileError) × Executes text [] old new (Err (SqlInputError fault)))
  pub inside : IsTrue new.in_transaction

-- Inside a transaction, and if the disk hasn't failed silently, the relation `Leads` holds between
-- the states before and after a successful call.
abbrev pub SucceedsInside : {S V E : Type 0} → Ghosts S → (State → State → Type 0) → MutBor (Held S) → MutBor (Held S)
    → Result V E → Type 0
SucceedsInside g Leads old new r =
    HasCleanDisk (state g new.now) → IsTrue (state g old.now).in_transaction
    → OnOk r (Leads (state g old.now) (state g new.now))

-- If the disk hasn't failed silently, a call inside a transaction commits nothing, and a crash leaves only what it
-- could leave before the call.
abbrev pub StaysInside : {S : Type 0} → Ghosts S → MutBor (Held S) → MutBor (Held S) → Type 0
StaysInside g old new =
    (HasCleanDisk (state g new.now) → IsTrue (state g old.now).in_transaction
    → KeepsCommit (state g old.now) (state g new.now))
    × Survives (state g old.now) (state g new.now) (λ _. ⊥)

-- The call runs in a transaction of its own, and returns true; if a transaction is open already, it returns false and
-- changes nothing.
pub record IsOwnTransaction {S E : Type 0} (g : Ghosts S) (old new : Held S) (r : Result Bool E) : Type 0 where
  pub busy : old.in_transaction ≡ true → (r ≡ Ok false) × (new ≡ old)
  pub begins : old.in_transaction ≡ false → IfOk r (λ done. IsTrue done)
  -- After an error the database is unchanged, if it is still open and the disk hasn't failed silently.
  pub none : HasCleanDisk (state g new) → IsTrue (state g new).is_open → OnErr r
      (((state g new).now ≡ (state g old).now) × ((state g new).committed ≡ (state g old).committed))
  pub was : HasCleanDisk (state g new) → IsTrue (state g new).is_open → IsTrue (state g old).is_open
  pub settled : HasCleanDisk (state g new) → IsTrue (state g new).is_open → old.in_transaction ≡ false
      → (state g new).now ≡ (state g new).committed
  pub mode : new.in_transaction ≡ old.in_transaction
