-- The outcome of passing rows to a sink one by one.
use Rattle.std.specs.Prelude.{◌≡◌, ◌⊎◌, List, [], ◌∷◌, ◌++◌, map, Option, None, Some, Result, Ok, Err}
use Rattle.thes_base.specs.declared.fault.Fault.{Fault}
use Rattle.thes_base.specs.declared.fault.Table.{Table}
use Rattle.thes_tables.specs.declared.cells.Cell.{Cell}
use Rattle.thes_tables.specs.Cells.{Raw, RawTable}
use Rattle.thes_tables.specs.TableOrder.{raw_rows_of, table_order}

module _ {S A : Type 0} (gives : S → A → Result (Unit {0}) Fault → S → Type 0) where
  -- The sink accepts all items of the list, in order; `gives` says how it consumes one.
  abbrev pub SinkAcceptsAll : S → List A → S → Type 0
  SinkAcceptsAll old [] new = new ≡ old
  SinkAcceptsAll old (x ∷ xs) new = (mid : S) × gives old x (Ok tt) mid × SinkAcceptsAll mid xs new

  -- The sink accepts a prefix of the items, and then rejects the next one with this fault, or gets no more.
  abbrev pub SinkAcceptsPrefix : Fault → S → List A → S → Type 0
  SinkAcceptsPrefix fault old [] new = new ≡ old
  SinkAcceptsPrefix fault old (x ∷ xs) new =
      (new ≡ old)
      ⊎ (gives old x (Err fault) new ⊎ ((mid : S) × gives old x (Ok tt) mid × SinkAcceptsPrefix fault mid xs new))

  -- The outcome of passing the items of a list: on success the sink accepts all of them in order, and on a fault a
  -- prefix.
  abbrev pub SinkOutcome : S → List A → Result (Unit {0}) Fault → S → Type 0
  SinkOutcome old xs (Ok done) new = SinkAcceptsAll old xs new
  SinkOutcome old xs (Err fault) new = SinkAcceptsPrefix fault old xs new

-- The rows that a sink gets for a table, each with the table's name, or one entry with None if the database can't query
-- the table.
abbrev pub sink_rows_of_table : Table → RawTable → List (Table × Option (List Cell))
sink_rows_of_table name None = (name, None) ∷ []
sink_rows_of_table name (Some rows) = map (λ row. (name, Some row)) rows

-- The rows of the tables with these names, table after table.
abbrev pub sink_rows_of_tables : Raw → List Table → List (Table × Option (List Cell))
sink_rows_of_tables raw [] = []
sink_rows_of_tables raw (name ∷ names) = sink_rows_of_table name (raw_rows_of name raw) ++ sink_rows_of_tables raw names

-- The rows that a sink gets for all tables, table after table in the order of a load.
abbrev pub sink_rows : Raw → List (Table × Option (List Cell))
sink_rows raw = sink_rows_of_tables raw table_order
