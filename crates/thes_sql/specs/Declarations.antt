-- The declarations of a store's tables in a database, and the differences from them that are allowed.
use Rattle.std.specs.Prelude.{ℕ, Bool, true, false, not, ◌&&◌, ◌==◌, List, [], ◌∷◌, Option, Some, None, codes}
use Rattle.std.specs.Prelude.{slice_get}
use Rattle.std.specs.List.{list_any}
use Rattle.sqlite_schema.specs.Names.{same_name, table_named}
use Rattle.sqlite_schema.specs.declared.schema.Kind.{Kind}
use Rattle.sqlite_schema.specs.declared.schema.Kind.TheVariants.{Integer, Text}
use Rattle.sqlite_schema.specs.declared.schema.Column.{Column}
use Rattle.sqlite_schema.specs.declared.schema.Index.{Index}
use Rattle.sqlite_schema.specs.declared.schema.Reference.{Reference}
use Rattle.sqlite_schema.specs.declared.schema.Schema.{Schema}
use Rattle.sqlite_schema.specs.declared.schema.Table.{Table as FoundTable}
use Rattle.sqlite_value.specs.declared.keys.Collation.{Collation}
use Rattle.sqlite_value.specs.declared.keys.Collation.TheVariants.{Binary}
use Rattle.thes_base.specs.declared.fault.Table.{Table}
use Rattle.thes_base.specs.declared.fault.Table.TheVariants as table
use Rattle.thes_base.specs.FaultNames.{table_name}

-- Whether the declared type of a column is that of integers.
abbrev pub is_integer : Kind → Bool
is_integer Integer = true
is_integer _ = false

-- Whether the declared type of a column is that of texts.
abbrev pub is_text : Kind → Bool
is_text Text = true
is_text _ = false

-- Whether the declared collation of a column compares texts by their bytes.
abbrev pub is_binary : Collation → Bool
is_binary Binary = true
is_binary _ = false

-- Whether the column has this name, in upper or lower case, takes only values of its declared type, and compares texts
-- by their bytes.
abbrev pub is_strict : List ℕ → Column → Bool
is_strict name c = same_name c.name name && (c.is_strict && is_binary c.collation)

-- Whether the column has this name, and takes only integers or NULL.
abbrev pub is_optional_number : List ℕ → Column → Bool
is_optional_number name c = is_strict name c && (is_integer c.kind && not c.not_null)

-- Whether the column has this name, and takes only integers.
abbrev pub is_number : List ℕ → Column → Bool
is_number name c = is_strict name c && (is_integer c.kind && c.not_null)

-- Whether the column has this name, and takes only texts.
abbrev pub is_text_column : List ℕ → Column → Bool
is_text_column name c = is_strict name c && (is_text c.kind && c.not_null)

-- Whether the column is declared NOT NULL.
abbrev pub needs_value : Column → Bool
needs_value c = c.not_null

-- Whether each of the columns may be NULL.
abbrev pub are_optional : List Column → Bool
are_optional columns = not (list_any needs_value columns)

-- Whether the columns are those of table meta, perhaps followed by columns that may be NULL.
abbrev pub has_meta_columns : List Column → Bool
has_meta_columns (one ∷ version ∷ base ∷ more) =
    is_optional_number (codes "one") one && (is_number (codes "version") version &&
    (is_text_column (codes "base") base && are_optional more))
has_meta_columns _ = false

-- Whether the columns are those of table resource, perhaps followed by columns that may be NULL.
abbrev pub has_resource_columns : List Column → Bool
has_resource_columns (num ∷ kind ∷ scheme ∷ live ∷ replaced ∷ more) =
    is_optional_number (codes "num") num && (is_number (codes "kind") kind
    && (is_optional_number (codes "scheme") scheme && (is_number (codes "live") live
    && (is_optional_number (codes "replaced") replaced && are_optional more))))
has_resource_columns _ = false

-- Whether the columns are those of table outside, perhaps followed by columns that may be NULL.
abbrev pub has_outside_columns : List Column → Bool
has_outside_columns (num ∷ iri ∷ more) =
    is_optional_number (codes "num") num && (is_text_column (codes "iri") iri && are_optional more)
has_outside_columns _ = false

-- Whether the columns are those of table label, perhaps followed by columns that may be NULL.
abbrev pub has_label_columns : List Column → Bool
has_label_columns (owner ∷ kind ∷ tag ∷ text ∷ more) =
    is_number (codes "owner") owner && (is_number (codes "kind") kind && (is_text_column (codes "tag") tag
    && (is_text_column (codes "text") text && are_optional more)))
has_label_columns _ = false

-- Whether the columns are three columns of integers with these names, as in tables link and hier, perhaps followed by
-- columns that may be NULL.
abbrev pub has_three_columns : List ℕ → List ℕ → List ℕ → List Column → Bool
has_three_columns first second third (a ∷ b ∷ c ∷ more) =
    is_number first a && (is_number second b && (is_number third c && are_optional more))
has_three_columns first second third _ = false

-- Whether the columns are those of table posting, perhaps followed by columns that may be NULL.
abbrev pub has_posting_columns : List Column → Bool
has_posting_columns (num ∷ pkey ∷ record_name ∷ first ∷ place ∷ withdrawn ∷ more) =
    is_optional_number (codes "num") num && (is_text_column (codes "pkey") pkey
    && (is_text_column (codes "record") record_name
    && (is_number (codes "first_at") first && (is_number (codes "at") place
    && (is_number (codes "withdrawn") withdrawn && are_optional more)))))
has_posting_columns _ = false

-- Whether the columns are those of table move, perhaps followed by columns that may be NULL.
abbrev pub has_move_columns : List Column → Bool
has_move_columns (num ∷ more) =
    is_optional_number (codes "num") num && has_three_columns (codes "posting") (codes "source") (codes "target") more
has_move_columns _ = false

-- Whether the columns are those that a store's table of this name has, perhaps followed by columns that may be NULL.
abbrev pub has_columns : Table → List Column → Bool
has_columns table.Meta columns = has_meta_columns columns
has_columns table.Resource columns = has_resource_columns columns
has_columns table.Outside columns = has_outside_columns columns
has_columns table.Label columns = has_label_columns columns
has_columns table.Link columns = has_three_columns (codes "kind") (codes "a") (codes "b") columns
has_columns table.Hier columns = has_three_columns (codes "a") (codes "b") (codes "typ") columns
has_columns table.Posting columns = has_posting_columns columns
has_columns table.Move columns = has_move_columns columns

-- Whether the first column of the table is its rowid; `at` is the position of the column that is the rowid, counted
-- from 0.
abbrev pub is_numbered : Option ℕ → Bool
is_numbered (Some at) = at == 0
is_numbered None = false

-- Whether the table has no key other than its rowid; the lists are the other keys, each with the positions of its
-- columns.
abbrev pub has_no_key : List (List ℕ) → Bool
has_no_key [] = true
has_no_key _ = false

-- Whether the key consists of the second column alone; the list has the positions of its columns, counted from 1.
abbrev pub is_second : List ℕ → Bool
is_second (a ∷ []) = a == 2
is_second _ = false

-- Whether the key consists of the first three columns, in order; the list has the positions of its columns, counted
-- from 1.
abbrev pub are_three : List ℕ → Bool
are_three (a ∷ b ∷ c ∷ []) = a == 1 && (b == 2 && c == 3)
are_three _ = false

-- Whether the key consists of the first four columns, in order; the list has the positions of its columns, counted from
-- 1.
abbrev pub are_four : List ℕ → Bool
are_four (a ∷ b ∷ c ∷ d ∷ []) = a == 1 && (b == 2 && (c == 3 && d == 4))
are_four _ = false

-- Whether the second column is the only key of the table other than its rowid.
abbrev pub has_second_as_key : List (List ℕ) → Bool
has_second_as_key (key ∷ []) = is_second key
has_second_as_key _ = false

-- Whether the first three columns together are the only key of the table other than its rowid.
abbrev pub has_three_as_key : List (List ℕ) → Bool
has_three_as_key (key ∷ []) = are_three key
has_three_as_key _ = false

-- Whether the first four columns together are the only key of the table other than its rowid.
abbrev pub has_four_as_key : List (List ℕ) → Bool
has_four_as_key (key ∷ []) = are_four key
has_four_as_key _ = false

-- Whether the rowid is the only key of the table.
abbrev pub has_number_alone : FoundTable → Bool
has_number_alone t = is_numbered t.key && has_no_key t.uniques

-- Whether the rowid and the second column are the only keys of the table.
abbrev pub has_number_and_second : FoundTable → Bool
has_number_and_second t = is_numbered t.key && has_second_as_key t.uniques

-- Whether the keys of the table are those that a store's table of this name has.
abbrev pub has_keys : Table → FoundTable → Bool
has_keys table.Meta t = has_number_alone t
has_keys table.Resource t = has_number_alone t
has_keys table.Outside t = has_number_and_second t
has_keys table.Label t = has_four_as_key t.uniques
has_keys table.Link t = has_three_as_key t.uniques
has_keys table.Hier t = has_three_as_key t.uniques
has_keys table.Posting t = has_number_and_second t
has_keys table.Move t = has_number_alone t

-- Whether the table has no foreign keys.
abbrev pub has_no_reference : List Reference → Bool
has_no_reference [] = true
has_no_reference _ = false

-- Whether the table has neither foreign keys nor AUTOINCREMENT.
abbrev pub is_plain : FoundTable → Bool
is_plain t = has_no_reference t.references && not t.is_counted

-- Whether the name of the index begins with `sqlite_`, like the names that SQLite gives to the indexes of keys.
abbrev pub is_automatic : List ℕ → Bool
is_automatic (a ∷ b ∷ c ∷ d ∷ e ∷ f ∷ g ∷ rest) =
    a == 115 && (b == 113 && (c == 108 && (d == 105 && (e == 116 && (f == 101 && g == 95)))))
is_automatic _ = false

-- Whether the index was made by a CREATE UNIQUE INDEX statement on the table in this tree, and so adds a key to that
-- table.
abbrev pub adds_key : ℕ → Index → Bool
adds_key tree index = index.table == tree && (index.is_unique && not (is_automatic index.name))

-- Whether the table is declared as a store's table of this name: it has the columns and keys of that table, and perhaps
-- further columns that may be NULL; it has no foreign keys and no AUTOINCREMENT, and none of the schema's indexes adds
-- a key to it.
abbrev pub is_as_created : Table → List Index → FoundTable → Bool
is_as_created name indexes t =
    has_columns name t.columns && (has_keys name t && (is_plain t && not (list_any (adds_key t.tree) indexes)))

-- Whether there is a table, and it is declared as a store's table of this name.
abbrev pub is_found_as_created : Table → List Index → Option FoundTable → Bool
is_found_as_created name indexes (Some t) = is_as_created name indexes t
is_found_as_created name indexes None = false

-- Whether the schema has a table at this position, and declares it as a store's table of this name.
abbrev pub declares_at : Schema → Table → Option ℕ → Bool
declares_at schema name (Some at) = is_found_as_created name schema.indexes (slice_get schema.tables at)
declares_at schema name None = false

-- Whether the schema has a table of this name, and declares it as `create_tables` does.
unfoldable pub declares : Schema → Table → Bool
declares schema name = declares_at schema name (table_named schema (table_name name))
