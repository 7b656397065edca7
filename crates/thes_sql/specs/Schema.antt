-- The schema of a store: eight tables, and two indexes that aren't unique.
use Rattle.sqlite.specs.Collation.TheVariants.{Binary}
use Rattle.std.specs.Prelude.{ℕ, Bool, true, false, [], ◌∷◌, Some, None, Option, codes, List}
use Rattle.sqlite.specs.declared.types.Value.TheVariants.{Null}
use Rattle.sqlite.specs.Table.{Table}
use Rattle.sqlite.specs.Schema.{Schema}
use Rattle.sqlite.specs.Kind.{Kind}
use Rattle.sqlite.specs.Kind.TheVariants.{Integer, Text}
use Rattle.sqlite_value.specs.Keys.{plain}
use Rattle.sqlite_value.specs.declared.keys.Order.{Order}
use Rattle.sqlite_schema.specs.declared.schema.Column.{Column}
use Rattle.sqlite_schema.specs.declared.schema.Index.{Index}
use Rattle.sqlite_catalog.specs.Change.{created, indexed}

-- A column of a strict table with this type and name, which may be NULL unless it is required.
abbrev pub column_of : Kind → Bool → List ℕ → Column
column_of kind required name =
    record { name = name; kind = kind; is_strict = true; not_null = required; default = Null; collation = Binary }

-- A column of integers that may be NULL.
abbrev pub optional_number_column : List ℕ → Column
optional_number_column = column_of Integer false

-- A column of integers that mustn't be NULL.
abbrev pub number_column : List ℕ → Column
number_column = column_of Integer true

-- A column of texts that mustn't be NULL.
abbrev pub text_column : List ℕ → Column
text_column = column_of Text true

-- A table without checks, foreign keys or AUTOINCREMENT. `key` is the position, counted from 0, of the column that is
-- the rowid, if one is. `primary` is the primary key, and `uniques` has each key other than the rowid, as lists of
-- positions: 0 is the rowid, and columns are counted from 1. `orders` has an order for each of `uniques`.
abbrev pub plain_table : List ℕ → List Column → Option ℕ → List ℕ → List (List ℕ) → List Order → Table
plain_table name columns key primary uniques orders = record {
  name = name;
  tree = 0;
  columns = columns;
  key = key;
  primary = primary;
  uniques = uniques;
  orders = orders;
  checks = [];
  references = [];
  computed = [];
  stamps = record { places = []; terms = []; formats = [] };
  is_counted = false;
}

-- A table whose primary key is its first column, which is the rowid; `uniques` and `orders` have its other keys.
abbrev pub numbered_table : List ℕ → List Column → List (List ℕ) → List Order → Table
numbered_table name columns uniques orders = plain_table name columns (Some 0) (0 ∷ []) uniques orders

-- A table whose primary key is all its columns together; `places` are their positions, counted from 1.
abbrev pub set_table : List ℕ → List Column → List ℕ → Table
set_table name columns places = plain_table name columns None places (places ∷ []) (plain ∷ [])

-- Table meta: one row with the version and the base.
abbrev pub meta_table : Table
meta_table = numbered_table (codes "meta")
    (optional_number_column (codes "one") ∷ number_column (codes "version") ∷ text_column (codes "base") ∷ []) [] []

-- Table resource: each scheme, concept, collection and outside concept, by number.
abbrev pub resource_table : Table
resource_table = numbered_table (codes "resource")
    (optional_number_column (codes "num") ∷ number_column (codes "kind") ∷ optional_number_column (codes "scheme")
    ∷ number_column (codes "live")
    ∷ optional_number_column (codes "replaced") ∷ []) [] []

-- Table outside: the IRI of each outside concept.
abbrev pub outside_table : Table
outside_table =
    numbered_table (codes "outside") (optional_number_column (codes "num") ∷ text_column (codes "iri") ∷ [])
    ((2 ∷ []) ∷ []) (plain ∷ [])

-- Table label: the labels and notes of all resources.
abbrev pub label_table : Table
label_table = set_table (codes "label")
    (number_column (codes "owner") ∷ number_column (codes "kind") ∷ text_column (codes "tag") ∷ text_column
    (codes "text") ∷ [])
    (1 ∷ 2 ∷ 3 ∷ 4 ∷ [])

-- Table link: all links except the hierarchical ones.
abbrev pub link_table : Table
link_table = set_table (codes "link") (number_column (codes "kind") ∷ number_column (codes "a") ∷ number_column
    (codes "b") ∷ []) (1 ∷ 2 ∷ 3 ∷ [])

-- Table hier: the hierarchical links, with their types.
abbrev pub hier_table : Table
hier_table = set_table (codes "hier") (number_column (codes "a") ∷ number_column (codes "b") ∷ number_column
    (codes "typ") ∷ []) (1 ∷ 2 ∷ 3 ∷ [])

-- Table posting: the postings by number, with their keys, records, first concepts and places, and whether they are
-- withdrawn.
abbrev pub posting_table : Table
posting_table = numbered_table (codes "posting")
    (optional_number_column (codes "num") ∷ text_column (codes "pkey") ∷ text_column (codes "record") ∷ number_column
    (codes "first_at")
    ∷ number_column (codes "at") ∷ number_column (codes "withdrawn") ∷ []) ((2 ∷ []) ∷ []) (plain ∷ [])

-- Table move: the moves of all postings, by number.
abbrev pub move_table : Table
move_table = numbered_table (codes "move")
    (optional_number_column (codes "num") ∷ number_column (codes "posting") ∷ number_column (codes "source")
    ∷ number_column (codes "target") ∷ []) [] []

-- An index that isn't unique, on the table in this tree. `columns` are the positions of its columns, counted from 1.
abbrev pub index_of : List ℕ → ℕ → List ℕ → Index
index_of name table columns =
    record { name = name; tree = 0; table = table; columns = columns; order = plain; is_unique = false }

-- The index of postings by place, for look-ups of a concept's postings.
abbrev pub posting_at : Index
posting_at = index_of (codes "posting_at") 8 (5 ∷ [])

-- The index of moves by posting, for look-ups of a posting's moves.
abbrev pub move_posting : Index
move_posting = index_of (codes "move_posting") 10 (2 ∷ [])

-- The empty schema, before the ten statements that create the tables and indexes of a store. The definitions below are
-- the schemas after each statement: `schema_up_to_label`, for example, has the tables up to label.
abbrev pub empty_schema : Schema
empty_schema = record { tables = []; indexes = []; views = [] }

abbrev pub schema_up_to_meta : Schema
schema_up_to_meta = created empty_schema meta_table

abbrev pub schema_up_to_resource : Schema
schema_up_to_resource = created schema_up_to_meta resource_table

abbrev pub schema_up_to_outside : Schema
schema_up_to_outside = created schema_up_to_resource outside_table

abbrev pub schema_up_to_label : Schema
schema_up_to_label = created schema_up_to_outside label_table

abbrev pub schema_up_to_link : Schema
schema_up_to_link = created schema_up_to_label link_table

abbrev pub schema_up_to_posting : Schema
schema_up_to_posting = created schema_up_to_link posting_table

abbrev pub schema_up_to_move : Schema
schema_up_to_move = created schema_up_to_posting move_table

-- The schema of all eight tables, without the two indexes.
abbrev pub schema_without_indexes : Schema
schema_without_indexes = created schema_up_to_move hier_table

-- The schema of all eight tables, with the first of the two indexes, that of postings by place.
abbrev pub schema_with_posting_at : Schema
schema_with_posting_at = indexed schema_without_indexes (record posting_table { tree = 8 }) posting_at

-- The schema of a store of version 2: eight tables and two indexes.
abbrev pub store_schema : Schema
store_schema = indexed schema_with_posting_at (record move_table { tree = 10 }) move_posting
