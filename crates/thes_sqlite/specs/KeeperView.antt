-- The state of storage in a database, and what a crash leaves of it.
use Rattle.std.specs.Prelude.{◌≡◌, ◌⊎◌, ℕ, false, List, map, Some, Result, IsTrue, refl}
use Rattle.std.specs.Coded.{Coded, code_by, coded×, coded_ℕ}
use Rattle.sqlite.specs.Held.{Held, held_code, state}
use Rattle.sqlite_trees.specs.declared.store.Store.{Ghosts}
use Rattle.thes_base.specs.declared.fault.Fault.{Fault}
use Rattle.thes_base.specs.declared.fault.Table.{Table}
use Rattle.sqlite.specs.Schema.{Schema}
use Rattle.sqlite.specs.Tree.{Trees}
use Rattle.sqlite.specs.State.{State, HasCleanDisk}
use Rattle.thes_tables.specs.declared.change.Change.{Change}
use Rattle.thes_tables.specs.Tables.{Tables, empty_tables}
use Rattle.thes_tables.specs.Rows.{tables_after_delta}
use Rattle.thes_tables.specs.Cells.{Raw, RawTable, cells_of_tables}
use Rattle.thes_tables.specs.TableOrder.{raw_by_table}
use Rattle.thes_store.specs.Storage.{StorageView, QueryFrame}
use Rattle.thes_sql.specs.Schema.{store_schema}
use Rattle.thes_sql.specs.StoredRows.{Keeps, KeepsIn, Hold}
use Rattle.thes_sql.specs.Reads.{rows_in_trees}
use Rattle.thes_sqlite.specs.ValueCells.{cell_of}

-- The rows of a table in a database's trees, as cells, in `Some` since the table can be queried.
abbrev pub raw_table : Table → Trees → RawTable
raw_table p db = Some (map (map cell_of) (rows_in_trees p db))

-- The rows of all tables in a database's trees, as cells.
abbrev pub raw_in : Trees → Raw
raw_in db = raw_by_table (λ p. raw_table p db)

-- The disk hasn't failed silently, and the database is open.
abbrev pub IsUp : State → Type 0
IsUp s = HasCleanDisk s × IsTrue s.is_open

-- The database is a store with some tables, perhaps with a user's additions, and nothing in it is uncommitted.
pub record HasCommittedTables (s : State) : Type 0 where
  pub settled : s.now ≡ s.committed
  pub keeps : (t : Tables) × Keeps s.now t

-- If the disk hasn't failed silently and the database is open, the database is a store, and nothing
-- in it is uncommitted.
abbrev pub IsStore : State → Type 0
IsStore s = IsUp s → HasCommittedTables s

-- `held` is true of the schema and the tables of the store that the database's files held when it was opened. If there
-- is such a store, and the database is up, it is this store, and nothing in it is uncommitted.
abbrev pub ServesTables : (Schema → Tables → Type 0) → State → Type 0
ServesTables held s = IsUp s → (schema : Schema) (t : Tables) → held schema t
    → (s.now ≡ s.committed) × KeepsIn schema s.now t

-- The database has the schema that it had in the state `first`, a user's additions included, and was open then.
abbrev pub HasSchemaOf : State → State → Type 0
HasSchemaOf now first = IsUp first × (now.now.schema ≡ first.now.schema)

-- The invariant between calls: no transaction is open, and a database that was a store in the state
-- `first` is one now, with the same schema.
pub record IsKeeperState (first now : State) : Type 0 where
  pub autocommit : now.in_transaction ≡ false
  pub served : IsStore first → IsStore now
  pub same : IsStore first → IsUp now → HasSchemaOf now first

-- Storage in a database as contracts see it: its connection, its count of failures, and `first`: its connection at the
-- start, or after the last migration or commit to a reopened database.
pub record KeeperView (S : Type 0) : Type 0 where
  pub conn : Held S
  pub failures : ℕ
  pub first : Held S

-- The coding of a view as the triple of its parts, which determine it.
abbrev pub keeper_view_code : {S : Type 0} → Coded S → Coded (KeeperView S)
keeper_view_code {S} store =
    code_by (Held S × (ℕ × Held S)) (coded× (held_code store) (coded× coded_ℕ (held_code store)))
    (λ k. (k.conn, (k.failures, k.first))) (λ p. record { conn = p.0; failures = p.1.0; first = p.1.1 }) (λ _. refl)

-- The rows of the storage's tables, as cells.
abbrev pub raw_of_keeper : {S : Type 0} → Ghosts S → KeeperView S → Raw
raw_of_keeper g k = raw_in (state g k.conn).now.trees

-- The storage serves its tables: its database was a store over the connection `first`, the database is open, and the
-- disk hasn't failed silently.
abbrev pub IsKeeperUp : {S : Type 0} → Ghosts S → KeeperView S → Type 0
IsKeeperUp g k = IsStore (state g k.first) × IsUp (state g k.conn)

-- The storage as the contracts of `Keeper` see it.
abbrev pub storage_view : {S : Type 0} → Ghosts S → KeeperView S → StorageView
storage_view g k = record { rows = raw_of_keeper g k; is_up = IsKeeperUp g k; failures = k.failures }

-- The storage is new: it keeps the tables of a store without rows, in the schema that the program makes, and has
-- counted no failures.
pub record IsNewKeeper {S : Type 0} (g : Ghosts S) (base : List ℕ) (k : KeeperView S) : Type 0 where
  pub rows : IsUp (state g k.conn) → raw_of_keeper g k ≡ cells_of_tables (empty_tables base)
  pub store : IsStore (state g k.first)
  pub schema : IsUp (state g k.first) → (state g k.first).now.schema ≡ store_schema
  pub failures : k.failures ≡ 0

-- The effect of every query: what the trait `Keeper` states of a query; and the connection `first` stays the same.
pub record KeeperQueryFrame {S T : Type 0} (g : Ghosts S) (old new : KeeperView S) (result : Result T Fault) : Type 0
  where
    pub storage : QueryFrame (storage_view g old) (storage_view g new) result
    pub first : new.first ≡ old.first

-- If the database was open before the call, its rows were those of tables, and the disk hasn't failed silently, a crash
-- leaves these tables, or these with all changes.
abbrev pub LeavesEither : List Change → State → State → Type 0
LeavesEither changes old new = HasCleanDisk new → IsTrue old.is_open → (t : Tables) → raw_in old.now.trees
    ≡ cells_of_tables t
    → (db : Trees) → new.may_leave db → Hold db t ⊎ Hold db (tables_after_delta changes t)

-- If the database is up after the call, and its rows before were those of tables, a crash leaves exactly these tables
-- with all changes.
abbrev pub LeavesAfter : List Change → State → State → Type 0
LeavesAfter changes old new = IsUp new → (t : Tables) → raw_in old.now.trees ≡ cells_of_tables t
    → (db : Trees) → new.may_leave db → Hold db (tables_after_delta changes t)
