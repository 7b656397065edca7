-- A store of version 1, and the steps of its migration to version 2.
use Rattle.std.specs.Prelude.{◌≡◌, ◌⊎◌, ℕ, List, [], ◌∷◌, map, filter, codes}
use Rattle.sqlite.specs.Order.{Row}
use Rattle.sqlite.specs.Tree.{Trees}
use Rattle.sqlite.specs.Effect.{Database}
use Rattle.sqlite.specs.Schema.{Schema}
use Rattle.thes_tables.specs.declared.cells.Cell.TheVariants.{Text}
use Rattle.thes_tables.specs.Cells.{number_cell}
use Rattle.thes_tables.specs.OldRows.{is_broader, untyped_row, tables_after_migration}
use Rattle.thes_tables.specs.Tables.{Tables}
use Rattle.thes_sql.specs.Additions.{IsStoreSchema}
use Rattle.thes_sql.specs.Schema.{schema_up_to_move, store_schema}
use Rattle.thes_sql.specs.StoredRows.{KeepsIn, keyed_row, values, HoldResources, HoldOutside, HoldPostings, HoldMoves}
use Rattle.thes_sql.specs.StoredRows.{AreHidden, ArePostingsNumbered, AreSpelled, label_values, link_values}
use Rattle.thes_sql.specs.StoredRows.{hier_values}

-- The schema of version 1: seven tables, without hier and without the two indexes.
abbrev pub old_schema : Schema
old_schema = schema_up_to_move

-- The stored row of table meta, with this version and base.
abbrev pub stored_version : ℕ → List ℕ → Row
stored_version version base = keyed_row (values (number_cell 1 ∷ number_cell version ∷ Text base ∷ []))

-- The trees hold these tables except hier, and table meta has this version.
pub record HoldAs (version : ℕ) (db : Trees) (t : Tables) : Type 0 where
  pub meta : db 0 ≡ stored_version version t.base ∷ []
  pub resource : HoldResources t.resource (db 1)
  pub outside : HoldOutside t.outside (db 2)
  pub label : AreHidden label_values t.label (db 4)
  pub link : AreHidden link_values t.link (db 6)
  pub posting : HoldPostings t.posting (db 8)
  pub numbered : ArePostingsNumbered 1 t.posting
  pub move : HoldMoves t.move (db 10)
  pub spelled : AreSpelled t

-- The database is a store of version 1 with these tables except hier: its table link has the links of all kinds.
pub record KeepsOld (db : Database) (t : Tables) : Type 0 where
  pub schema : db.schema ≡ old_schema
  pub hold : HoldAs 1 db.trees t

-- The database has the schema of version 2, perhaps with a user's additions. It has these tables, and its table meta
-- has this version.
pub record KeepsAs (version : ℕ) (db : Database) (t : Tables) : Type 0 where
  pub schema : IsStoreSchema db.schema
  pub hold : HoldAs version db.trees t
  pub hier : AreHidden hier_values t.hier (db.trees 11)

-- The database is a store in the middle of its migration, with these tables: it has the schema of version 2 without
-- additions, and table meta still has version 1.
pub record IsMigrating (db : Database) (t : Tables) : Type 0 where
  pub schema : db.schema ≡ store_schema
  pub keeps : KeepsAs 1 db t

-- The tables after table hier was created: it is empty.
abbrev pub tables_with_empty_hier : Tables → Tables
tables_with_empty_hier t = record t { hier = [] }

-- The tables after the links of kind broader were copied into table hier; table link still has
-- them.
abbrev pub tables_with_copied_links : Tables → Tables
tables_with_copied_links t = record t { hier = map untyped_row (filter is_broader t.link) }

-- The database is a store of version 1 with these tables, before its migration.
abbrev pub IsOldStore : Tables → Database → Type 0
IsOldStore t db = KeepsOld db t

-- The migration has created table hier, which is empty.
abbrev pub HasEmptyHier : Tables → Database → Type 0
HasEmptyHier t db = IsMigrating db (tables_with_empty_hier t)

-- The migration has copied the links of kind broader into table hier.
abbrev pub HasCopiedLinks : Tables → Database → Type 0
HasCopiedLinks t db = IsMigrating db (tables_with_copied_links t)

-- The migration has deleted the links of kind broader from table link; table meta still has version 1.
abbrev pub HasMovedLinks : Tables → Database → Type 0
HasMovedLinks t db = IsMigrating db (tables_after_migration t)

-- The database is a store of version 2 with the migrated tables.
abbrev pub IsMigratedStore : Tables → Database → Type 0
IsMigratedStore t db = KeepsIn store_schema db (tables_after_migration t)

-- The database has the schema of version 1, without additions, or that of version 2 with or without a user's additions.
abbrev pub HasKnownSchema : Database → Type 0
HasKnownSchema db = IsStoreSchema db.schema ⊎ (db.schema ≡ old_schema)

-- The database has the schema of version 1 or 2, and the only row of table meta has this version and this base.
abbrev pub IsStoreOfVersion : ℕ → List ℕ → Database → Type 0
IsStoreOfVersion version base db = HasKnownSchema db × (db.trees 0 ≡ stored_version version base ∷ [])

-- The row of table meta as a query returns it.
abbrev pub version_row : ℕ → List ℕ → Row
version_row version base = values (number_cell 1 ∷ number_cell version ∷ Text base ∷ [])

-- The query that compiles exactly when the three columns of table link can be queried.
abbrev pub links_text : List ℕ
links_text = codes "SELECT kind, a, b FROM link"

-- The query that compiles exactly when table hier can be queried.
abbrev pub hier_text : List ℕ
hier_text = codes "SELECT 1 FROM hier"
