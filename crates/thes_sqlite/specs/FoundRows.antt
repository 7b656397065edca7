-- The rows that a load finds in a database that may hold anything.
use Rattle.std.specs.Prelude.{◌≡◌, ◌⊎◌, List, [], ◌∷◌, ◌++◌, map, Option, Some, None, Result, true, false}
use Rattle.sqlite.specs.Order.{Row}
use Rattle.sqlite.specs.Effect.{Database}
use Rattle.sqlite.specs.Held.{state}
use Rattle.sqlite_trees.specs.declared.store.Store.{Ghosts}
use Rattle.thes_base.specs.declared.fault.Fault.{Fault}
use Rattle.thes_base.specs.declared.fault.Table.{Table}
use Rattle.thes_tables.specs.declared.cells.Cell.{Cell}
use Rattle.thes_tables.specs.Cells.{Raw, RawTable}
use Rattle.thes_tables.specs.TableOrder.{raw_rows_of}
use Rattle.thes_store.specs.Sinks.{SinkAcceptsAll, sink_rows, sink_rows_of_table}
use Rattle.thes_sql.specs.Declarations.{declares}
use Rattle.thes_sql.specs.Queries.{Finds}
use Rattle.thes_sql.specs.Reads.{read_text}
use Rattle.thes_sqlite.specs.KeeperView.{KeeperView, IsUp}
use Rattle.thes_sqlite.specs.ValueCells.{cell_of}

-- What a load finds in a table: the rows that the table's query finds, as cells; or None if the query doesn't compile,
-- one of its values has no result, or the table isn't declared as in a store.
abbrev pub FindsTable : Table → Database → RawTable → Type 0
FindsTable p db None = (declares db.schema p ≡ false) ⊎ Finds (read_text p) db None
FindsTable p db (Some rows) = (declares db.schema p ≡ true) × ((found : List Row)
    × Finds (read_text p) db (Some found) × (rows ≡ map (map cell_of) found))

-- The rows of all tables are those that a load finds.
abbrev pub FindsTables : Database → Raw → Type 0
FindsTables db raw = (p : Table) → FindsTable p db (raw_rows_of p raw)

-- The connection of the storage is open, and the disk hasn't failed silently, whatever the database has.
abbrev pub IsKeeperOpen : {S : Type 0} → Ghosts S → KeeperView S → Type 0
IsKeeperOpen g k = IsUp (state g k.conn)

-- The rows are those that a load finds in the database of the storage.
abbrev pub FindsInKeeper : {S : Type 0} → Ghosts S → KeeperView S → Raw → Type 0
FindsInKeeper g k raw = FindsTables (state g k.conn).now raw

-- These are the rows that a load finds in the tables with these names, table after table.
abbrev pub AreFoundRows : Database → List Table → List (Table × Option (List Cell)) → Type 0
AreFoundRows db [] items = items ≡ []
AreFoundRows db (p ∷ names) items = (found : RawTable) × FindsTable p db found
    × ((rest : List (Table × Option (List Cell))) × AreFoundRows db names rest
    × (items ≡ sink_rows_of_table p found ++ rest))

module _ {R : Type 0} (gives : R → Table × Option (List Cell) → Result (Unit {0}) Fault → R → Type 0) where
  -- The sink accepts the rows that a load finds in a table.
  abbrev pub PassesTable : Table → Database → R → R → Type 0
  PassesTable p db old new =
      (found : RawTable) × FindsTable p db found × SinkAcceptsAll gives old (sink_rows_of_table p found) new

  -- The sink accepts the rows that a load finds in the tables with these names, table after table.
  abbrev pub PassesNamed : List Table → Database → R → R → Type 0
  PassesNamed names db old new =
      (items : List (Table × Option (List Cell))) × AreFoundRows db names items × SinkAcceptsAll gives old items new

  -- The sink accepts the rows that a load finds in all tables, in the order of the tables.
  abbrev pub PassesTables : Database → R → R → Type 0
  PassesTables db old new = (raw : Raw) × FindsTables db raw × SinkAcceptsAll gives old (sink_rows raw) new
