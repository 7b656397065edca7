-- The schemas of stores to which a user added tables, indexes and views.
use Rattle.std.specs.Prelude.{◌≡◌, ◌≢◌, ◌⊎◌, ◌++◌, ℕ, List, [], true}
use Rattle.std.specs.List.{AllByRecursion}
use Rattle.sqlite_schema.specs.declared.schema.Index.{Index}
use Rattle.sqlite_schema.specs.declared.schema.View.{View}
use Rattle.sqlite.specs.Schema.{Schema}
use Rattle.sqlite.specs.Table.{Table as StoredTable}
use Rattle.sqlite.specs.Tree.{Trees}
use Rattle.thes_base.specs.declared.fault.Table.{Table}
use Rattle.thes_tables.specs.Tables.{IsIn}
use Rattle.thes_sql.specs.Declarations.{declares}
use Rattle.thes_sql.specs.Schema.{store_schema}

-- The parts of a schema besides the eight tables of a store: the tables after these, all indexes, and all views.
pub record Additions : Type 0 where
  pub tables : List StoredTable
  pub indexes : List Index
  pub views : List View

-- The eight tables of a store, as the program makes them, in their order.
abbrev pub store_tables : List StoredTable
store_tables = store_schema.tables

-- The schema that begins with the tables of a store, and has these additions.
abbrev pub schema_with : Additions → Schema
schema_with added =
    record { tables = store_tables ++ added.tables; indexes = added.indexes; views = added.views }

-- The table is stored in a tree that none of these tables has.
abbrev pub IsApartFrom : List StoredTable → StoredTable → Type 0
IsApartFrom tables t = AllByRecursion (λ (own : StoredTable). own.tree ≢ t.tree) tables

-- The table is stored in a tree that none of the eight tables of a store has.
abbrev pub IsApart : StoredTable → Type 0
IsApart = IsApartFrom store_tables

-- The schema is that of a store: it begins with the eight tables as the program makes them, and declares each of them
-- as a store does. After them it may have any tables in trees of their own, with or without foreign keys; it may also
-- have any views, and any indexes that don't make columns of the eight tables a key.
pub record IsStoreSchema (schema : Schema) : Type 0 where
  pub added : Additions
  pub is : schema ≡ schema_with added
  pub apart : AllByRecursion IsApart added.tables
  pub declared : (p : Table) → declares schema p ≡ true

-- The schema has the table besides the eight tables of a store, and no foreign key's action changes it: it is stored
-- apart from those eight, and from each table that has foreign keys.
pub record IsUserTable (schema : Schema) (t : StoredTable) : Type 0 where
  pub is_there : IsIn t schema.tables
  pub apart : IsApart t
  pub unbound : AllByRecursion (λ (c : StoredTable). (c.references ≡ []) ⊎ (t.tree ≢ c.tree)) schema.tables

-- The rows of a user's tables are unchanged, except in tables with foreign keys, which have actions of their own.
pub record LeavesUserTables (schema : Schema) (old new : Trees) : Type 0 where
  pub same : (t : StoredTable) → IsUserTable schema t → new t.tree ≡ old t.tree
