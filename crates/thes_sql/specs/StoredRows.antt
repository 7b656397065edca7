-- The rows of the tables as a database stores them. The tree of a table is the list of its stored rows, by rowid.
use Rattle.std.specs.Prelude.{◌≡◌, ◌<◌, ◌+◌, ℕ, pos, List, [], ◌∷◌, map, ⊤, IsUtf8}
use Rattle.std.specs.List.{AllByRecursion}
use Rattle.sqlite.specs.declared.types.Value.{Value}
use Rattle.sqlite.specs.declared.types.Value.TheVariants.{Null, Int, Text as Words, Blob}
use Rattle.sqlite.specs.Order.{Row}
use Rattle.sqlite.specs.Schema.{Schema}
use Rattle.sqlite.specs.Tree.{Trees}
use Rattle.sqlite.specs.Effect.{Database}
use Rattle.thes_base.specs.declared.data.Resource.{Resource}
use Rattle.thes_base.specs.declared.data.Link.{Link}
use Rattle.thes_base.specs.Labels.{Label}
use Rattle.thes_tables.specs.declared.rows.HierRow.{HierRow}
use Rattle.thes_tables.specs.declared.rows.PostingRow.{PostingRow}
use Rattle.thes_tables.specs.declared.rows.MoveRow.{MoveRow}
use Rattle.thes_tables.specs.declared.cells.Cell.{Cell}
use Rattle.thes_tables.specs.declared.cells.Cell.TheVariants as cells
use Rattle.thes_tables.specs.Tables.{Tables}
use Rattle.thes_tables.specs.Cells.{resource_cells, label_cells, link_cells, hier_cells, posting_cells, move_cells}
use Rattle.thes_tables.specs.Cells.{outside_cells, meta_cells}
use Rattle.thes_sql.specs.Additions.{IsStoreSchema}

-- The SQL value of a cell.
abbrev pub value_of : Cell → Value
value_of (cells.Int n) = Int n
value_of (cells.Text text) = Words text
value_of (cells.Bytes bytes) = Blob bytes
value_of cells.Null = Null

-- The SQL values of a row of cells.
abbrev pub values : List Cell → List Value
values row = map value_of row

-- The stored row of values of which the first is the rowid: the rowid, then NULL in the rowid's own column, as SQLite
-- stores it, and then the other values.
abbrev pub keyed_row : List Value → Row
keyed_row [] = []
keyed_row (id ∷ rest) = id ∷ Null ∷ rest

-- The stored row of table meta, whose rowid is its key, 1.
abbrev pub stored_meta : List ℕ → Row
stored_meta base = keyed_row (values (meta_cells base))

-- The stored row of a resource, whose rowid is its number.
abbrev pub stored_resource : ℕ × Resource → Row
stored_resource row = keyed_row (values (resource_cells row.0 row.1))

-- The stored row of an outside concept, whose rowid is its number.
abbrev pub stored_outside : ℕ × List ℕ → Row
stored_outside row = keyed_row (values (outside_cells row))

-- The stored row of a posting, whose rowid is its number.
abbrev pub stored_posting : PostingRow → Row
stored_posting row = keyed_row (values (posting_cells row))

-- The stored row of a move, whose rowid is its number.
abbrev pub stored_move : MoveRow → Row
stored_move row = keyed_row (values (move_cells row))

-- The SQL values of a label.
abbrev pub label_values : Label → List Value
label_values l = values (label_cells l)

-- The SQL values of a link.
abbrev pub link_values : Link → List Value
link_values l = values (link_cells l)

-- The SQL values of a hierarchical link.
abbrev pub hier_values : HierRow → List Value
hier_values row = values (hier_cells row)

-- The numbers of the elements are strictly increasing, and the first is greater than `above`.
abbrev pub AreIncreasingAbove : {A : Type 0} → (A → ℕ) → ℕ → List A → Type 0
AreIncreasingAbove num above [] = ⊤
AreIncreasingAbove num above (x ∷ xs) = (above < num x) × AreIncreasingAbove num (num x) xs

-- The tree has exactly the rows that `stored` makes of these elements, sorted by their numbers `num`, which are
-- positive.
pub record AreKeyed {A : Type 0} (stored : A → Row) (num : A → ℕ) (xs : List A) (tree : List Row) : Type 0 where
  pub rises : AreIncreasingAbove num 0 xs
  pub rows : tree ≡ map stored xs

-- The stored row of an element of a table without numbers: the rowid, which the database chose, and then the values
-- that `of` gives for the element.
abbrev pub hidden_row : {A : Type 0} → (A → List Value) → ℕ × A → Row
hidden_row of row = Int (pos row.0) ∷ of row.1

-- The tree has exactly the rows of these elements in their order, under increasing rowids that the database chose.
pub record AreHidden {A : Type 0} (of : A → List Value) (xs : List A) (tree : List Row) : Type 0 where
  pub given : List (ℕ × A)
  pub same : map (λ (row : ℕ × A). row.1) given ≡ xs
  pub held : AreKeyed (hidden_row of) (λ (row : ℕ × A). row.0) given tree

-- The elements, each paired with its number; the numbers count from `n`.
abbrev pub numbered_from : {A : Type 0} → ℕ → List A → List (ℕ × A)
numbered_from n [] = []
numbered_from n (x ∷ xs) = (n, x) ∷ numbered_from (n + 1) xs

-- The postings are numbered from `n` on without gaps.
abbrev pub ArePostingsNumbered : ℕ → List PostingRow → Type 0
ArePostingsNumbered n [] = ⊤
ArePostingsNumbered n (row ∷ rows) = (row.number ≡ n) × ArePostingsNumbered (n + 1) rows

-- The tree has exactly these resources, numbered from 1.
abbrev pub HoldResources : List Resource → List Row → Type 0
HoldResources rs tree = AreKeyed stored_resource (λ (row : ℕ × Resource). row.0) (numbered_from 1 rs) tree

-- The tree has exactly these outside concepts.
abbrev pub HoldOutside : List (ℕ × List ℕ) → List Row → Type 0
HoldOutside rows tree = AreKeyed stored_outside (λ (row : ℕ × List ℕ). row.0) rows tree

-- The tree has exactly these postings.
abbrev pub HoldPostings : List PostingRow → List Row → Type 0
HoldPostings rows tree = AreKeyed stored_posting (λ (row : PostingRow). row.number) rows tree

-- The tree has exactly these moves.
abbrev pub HoldMoves : List MoveRow → List Row → Type 0
HoldMoves rows tree = AreKeyed stored_move (λ (row : MoveRow). row.number) rows tree

-- The IRI of the outside concept is UTF-8.
abbrev pub IsSpelledOutside : ℕ × List ℕ → Type 0
IsSpelledOutside row = IsUtf8 row.1

-- The tag and the text of the label are UTF-8.
abbrev pub IsSpelledLabel : Label → Type 0
IsSpelledLabel l = IsUtf8 l.tag × IsUtf8 l.text

-- The key and the record of the posting are UTF-8.
abbrev pub IsSpelledPosting : PostingRow → Type 0
IsSpelledPosting row = IsUtf8 row.key × IsUtf8 row.rec

-- Each text of the tables is UTF-8.
abbrev pub AreSpelled : Tables → Type 0
AreSpelled t =
    IsUtf8 t.base × (AllByRecursion IsSpelledOutside t.outside × (AllByRecursion IsSpelledLabel t.label
    × AllByRecursion IsSpelledPosting t.posting))

-- The trees hold exactly these tables, with texts in UTF-8 and postings numbered from 1.
pub record Hold (db : Trees) (t : Tables) : Type 0 where
  pub meta : db 0 ≡ stored_meta t.base ∷ []
  pub resource : HoldResources t.resource (db 1)
  pub outside : HoldOutside t.outside (db 2)
  pub label : AreHidden label_values t.label (db 4)
  pub link : AreHidden link_values t.link (db 6)
  pub hier : AreHidden hier_values t.hier (db 11)
  pub posting : HoldPostings t.posting (db 8)
  pub numbered : ArePostingsNumbered 1 t.posting
  pub move : HoldMoves t.move (db 10)
  pub spelled : AreSpelled t

-- The database is a store with these tables: it has the schema of version 2, perhaps with a user's additions, and its
-- trees hold them.
pub record Keeps (db : Database) (t : Tables) : Type 0 where
  pub schema : IsStoreSchema db.schema
  pub hold : Hold db.trees t

-- The database is a store with these tables, and has this schema: `store_schema`, if it has no additions.
pub record KeepsIn (schema : Schema) (db : Database) (t : Tables) : Type 0 where
  pub schema_is : db.schema ≡ schema
  pub keeps : Keeps db t
