-- The rows that queries return, and what queries leave unchanged.
use Rattle.std.specs.Prelude.{◌≡◌, ◌≤◌, ◌==◌, ◌&&◌, ℕ, List, [], ◌∷◌, map, filter, codes, not, false, IsTrue}
use Rattle.std.specs.Prelude.{Result, IfOk}
use Rattle.std.specs.Ordering.{nat_cmp, eq_by_cmp}
use Rattle.std.specs.Cmp.Lexicographic.{slice_cmp}
use Rattle.sqlite.specs.Order.{Row, column}
use Rattle.sqlite.specs.Tree.{Trees}
use Rattle.sqlite.specs.Effect.{Database}
use Rattle.sqlite.specs.State.{HasCleanDisk, Survives}
use Rattle.sqlite.specs.Held.{Held, state}
use Rattle.sqlite_trees.specs.Tree.{IsTable}
use Rattle.sqlite_trees.specs.View.{doubt}
use Rattle.sqlite_trees.specs.declared.store.Store.{Ghosts}
use Rattle.thes_base.specs.declared.fault.Table.{Table}
use Rattle.thes_base.specs.declared.fault.Table.TheVariants as table
use Rattle.thes_tables.specs.declared.cells.Cell.{Cell}
use Rattle.thes_tables.specs.declared.rows.PostingRow.{PostingRow}
use Rattle.thes_tables.specs.declared.rows.MoveRow.{MoveRow}
use Rattle.thes_tables.specs.Tables.{Tables}
use Rattle.thes_tables.specs.Cells.{meta_cells, resource_rows, outside_cells, label_cells, link_cells, hier_cells}
use Rattle.thes_tables.specs.Cells.{posting_cells, move_cells, number_cell}
use Rattle.thes_sql.specs.Additions.{IsStoreSchema}
use Rattle.thes_sql.specs.StoredRows.{Keeps, values}

-- The number of the tree in which the database stores a table.
abbrev pub tree_of : Table → ℕ
tree_of table.Meta = 0
tree_of table.Resource = 1
tree_of table.Outside = 2
tree_of table.Label = 4
tree_of table.Link = 6
tree_of table.Hier = 11
tree_of table.Posting = 8
tree_of table.Move = 10

-- The positions of a table's columns in the rows of its tree.
abbrev pub places_of : Table → List ℕ
places_of table.Meta = 0 ∷ 2 ∷ 3 ∷ []
places_of table.Resource = 0 ∷ 2 ∷ 3 ∷ 4 ∷ 5 ∷ []
places_of table.Outside = 0 ∷ 2 ∷ []
places_of table.Label = 1 ∷ 2 ∷ 3 ∷ 4 ∷ []
places_of table.Link = 1 ∷ 2 ∷ 3 ∷ []
places_of table.Hier = 1 ∷ 2 ∷ 3 ∷ []
places_of table.Posting = 0 ∷ 2 ∷ 3 ∷ 4 ∷ 5 ∷ 6 ∷ []
places_of table.Move = 0 ∷ 2 ∷ 3 ∷ 4 ∷ []

-- The rows that the query for a table returns from these trees, whether or not the trees hold the tables of a store.
abbrev pub rows_in_trees : Table → Trees → List Row
rows_in_trees p db = map (λ (row : Row). map (column row) (places_of p)) (db (tree_of p))

-- The database has the schema of a store, perhaps with a user's additions, and the rows of each of its eight tables are
-- sorted by rowid.
pub record IsReadable (db : Database) : Type 0 where
  pub schema : IsStoreSchema db.schema
  pub ordered : (p : Table) → IsTable (db.trees (tree_of p))

-- The cells of all rows of a table, in order.
abbrev pub cells_of_table : Table → Tables → List (List Cell)
cells_of_table table.Meta t = meta_cells t.base ∷ []
cells_of_table table.Resource t = resource_rows 1 t.resource
cells_of_table table.Outside t = map outside_cells t.outside
cells_of_table table.Label t = map label_cells t.label
cells_of_table table.Link t = map link_cells t.link
cells_of_table table.Hier t = map hier_cells t.hier
cells_of_table table.Posting t = map posting_cells t.posting
cells_of_table table.Move t = map move_cells t.move

-- The query for all rows of a table, sorted by number or, in label, link and hier, in insertion order.
abbrev pub read_text : Table → List ℕ
read_text table.Meta = codes "SELECT one, version, base FROM meta ORDER BY one"
read_text table.Resource = codes "SELECT num, kind, scheme, live, replaced FROM resource ORDER BY num"
read_text table.Outside = codes "SELECT num, iri FROM outside ORDER BY num"
read_text table.Label = codes "SELECT owner, kind, tag, text FROM label ORDER BY rowid"
read_text table.Link = codes "SELECT kind, a, b FROM link ORDER BY rowid"
read_text table.Hier = codes "SELECT a, b, typ FROM hier ORDER BY rowid"
read_text table.Posting = codes "SELECT num, pkey, record, first_at, at, withdrawn FROM posting ORDER BY num"
read_text table.Move = codes "SELECT num, posting, source, target FROM move ORDER BY num"

-- The query for the rows of the postings that are assigned to a concept, sorted by number.
abbrev pub assigned_text : List ℕ
assigned_text =
    codes "SELECT num, pkey, record, first_at, at, withdrawn FROM posting WHERE at = ?1 AND withdrawn = 0 ORDER BY num"

-- The query for the numbers of the postings that are assigned to a concept, in increasing order.
abbrev pub assigned_numbers_text : List ℕ
assigned_numbers_text = codes "SELECT num FROM posting WHERE at = ?1 AND withdrawn = 0 ORDER BY num"

-- The rows of table posting that have the key, as cells.
abbrev pub cells_with_key : List ℕ → Tables → List (List Cell)
cells_with_key key t = map posting_cells (filter (λ (x : PostingRow). eq_by_cmp (slice_cmp nat_cmp) x.key key)
    t.posting)

-- The rows of table posting that have the number, as cells.
abbrev pub cells_with_number : ℕ → Tables → List (List Cell)
cells_with_number n t = map posting_cells (filter (λ (x : PostingRow). x.number == n) t.posting)

-- The rows of the postings that are assigned to the concept, as cells.
abbrev pub cells_at_concept : ℕ → Tables → List (List Cell)
cells_at_concept concept t =
    map posting_cells (filter (λ (x : PostingRow). not x.withdrawn && x.place == concept) t.posting)

-- For each posting that is assigned to the concept, the row of one cell that is its number.
abbrev pub number_cells_at_concept : ℕ → Tables → List (List Cell)
number_cells_at_concept concept t =
    map (λ (x : PostingRow). number_cell x.number ∷ []) (filter (λ x. not x.withdrawn && x.place == concept) t.posting)

-- The rows of table move that are moves of the posting, as cells.
abbrev pub cells_of_moves : ℕ → Tables → List (List Cell)
cells_of_moves n t = map move_cells (filter (λ (x : MoveRow). x.posting == n) t.move)

-- If the database is a store, and its disk hasn't failed silently, a query that succeeds returns exactly the rows
-- `wanted` of the store's tables, in order.
abbrev pub SelectResult : {S V E : Type 0} → Ghosts S → (Tables → List (List Cell)) → Held S → Held S → Result V E
    → (V → List Row) → Type 0
SelectResult g wanted old new r rows =
    HasCleanDisk (state g new) → IfOk r (λ out. (t : Tables) → Keeps (state g old).now t
    → rows out ≡ map values (wanted t))

-- A call leaves the database unchanged, provided that the database had nothing uncommitted and is still open, and that
-- the disk hasn't failed silently.
pub record LeavesTables {S : Type 0} (g : Ghosts S) (old new : Held S) : Type 0 where
  pub mode : old.in_transaction ≡ false → new.in_transaction ≡ false
  pub was : HasCleanDisk (state g new) → IsTrue (state g new).is_open → IsTrue (state g old).is_open
  pub clean : doubt (state g old).is_clean ≤ doubt (state g new).is_clean
  pub same : HasCleanDisk (state g new) → IsTrue (state g new).is_open → (state g old).now ≡ (state g old).committed
      → ((state g new).now ≡ (state g old).now) × ((state g new).committed ≡ (state g old).committed)

-- A call leaves the database unchanged as in `LeavesTables`, and a crash leaves only what it could leave before the
-- call.
pub record LeavesAlone {S : Type 0} (g : Ghosts S) (old new : Held S) : Type 0 where
  pub tables : LeavesTables g old new
  pub crash : Survives (state g old) (state g new) (λ _. ⊥)
