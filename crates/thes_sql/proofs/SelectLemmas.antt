-- Proves which rows a SELECT from one table returns.
use Rattle.std.proofs.lemmas.Grind.{common_steps}
use Rattle.std.proofs.Common.{arith, ◌≡◌, ℕ, pos, List, [], ◌∷◌, ◌<◌, ◌≤◌, ◌==◌, ◌&&◌, map, filter, inl, inr, flat_map}
use Rattle.std.proofs.Common.{codes, Bool, true, false, not, cond, refl, sym, ap, subst, ◌∙◌, Less, lit<, Option, Some}
use Rattle.std.proofs.Common.{None, Ok, is_ok, subst₂}
use Rattle.std.proofs.Math.Bool.{and-true}
use Rattle.std.specs.List.{AllByRecursion, list_all}
use Rattle.std.specs.List.Sorted.{IsPermutation}
use Rattle.std.specs.Ordering.{nat_cmp, eq_by_cmp}
use Rattle.std.specs.Cmp.Lexicographic.{slice_cmp}
use Rattle.sqlite.specs.declared.types.Value.TheVariants.{Null, Int, Text as Words}
use Rattle.sqlite.specs.Order.{Row, column, value_cmp}
use Rattle.sqlite.specs.Term.{Term, lit, col, holds}
use Rattle.sqlite.specs.Query.{Query, IsAnswer, output, output_cmp, page, Output}
use Rattle.sqlite_sql.proofs.QueryLemmas.{output_cmp_total, no_fold_overflows}
use Rattle.sqlite_typing.specs.Types.{accepts_program}
use Rattle.sqlite_schema.specs.declared.program.Program.{Program}
use Rattle.sqlite_resolve.specs.declared.compiled.Compiled.{Compiled}
use Rattle.sqlite.specs.Effect.{Database, Reads, RefusesQuery, RefusesToRead}
use Rattle.sqlite.specs.Schema.{Schema}
use Rattle.sqlite.specs.declared.error.Error.{Error}
use Rattle.sqlite_keyed.proofs.SortLemmas.{sorted_unique}
use Rattle.sqlite_keyed.proofs.ListLemmas.{map-map}
use Rattle.sqlite_trees.specs.Tree.{IsAscending, IsTable, rowid}
use Rattle.sqlite.specs.Program.{overlay}
use Rattle.sqlite.specs.Tree.{Trees}
use Rattle.sqlite.specs.Command.TheVariants.{Select}
use Rattle.sqlite.specs.Listing.{understood, reads_listing, IsSourceOf}
use Rattle.sqlite.specs.State.{State, Shown}
use Rattle.sqlite_tied.specs.Compute.{everything}
use Rattle.sqlite_value.specs.declared.keys.Collation.TheVariants.{Binary}
use Rattle.sqlite_value.specs.Keys.{ascending}
use Rattle.sqlite.proofs.Callers.{IsPlain, command_of, reads_as}
use Rattle.thes_base.specs.declared.fault.Table.{Table}
use Rattle.thes_base.specs.declared.fault.Table.TheVariants as table
use Rattle.thes_base.specs.declared.data.Resource.{Resource}
use Rattle.thes_tables.specs.declared.cells.Cell.{Cell}
use Rattle.thes_tables.specs.declared.rows.PostingRow.{PostingRow}
use Rattle.thes_tables.specs.declared.rows.MoveRow.{MoveRow}
use Rattle.thes_tables.specs.Tables.{Tables}
use Rattle.thes_tables.specs.Cells.{posting_cells, move_cells, number_cell}
use Rattle.thes_sql.specs.Additions.{Additions, IsStoreSchema, schema_with}
use Rattle.thes_sql.specs.StoredRows.{Keeps, AreIncreasingAbove, AreKeyed, values, stored_posting, stored_move}
use Rattle.thes_sql.specs.OldStore.{old_schema, IsStoreOfVersion, stored_version, version_row}
use Rattle.thes_tables.specs.declared.cells.Cell.TheVariants as cells
use Rattle.thes_sql.specs.Reads.{read_text, cells_with_key, cells_with_number, cells_at_concept, assigned_text}
use Rattle.thes_sql.specs.Reads.{assigned_numbers_text, number_cells_at_concept, cells_of_moves, tree_of, places_of}
use Rattle.thes_sql.specs.Reads.{rows_in_trees, IsReadable}
use Rattle.thes_sql.specs.Queries.{IsQuery, Finds}
use Rattle.thes_sql.proofs.StatementTextLemmas.{plain_query, whole_program, equal_terms, number_filter, place_filter}
use Rattle.thes_sql.proofs.KeyedRowLemmas.{int_value_less, rising_filter}
use Rattle.thes_sql.proofs.StatementLemmas.{staged_rows_pass, no_lets, map_shows}
use Rattle.thes_sql.proofs.WhereLemmas.{by_number, by_place, same_ints, same_words}

-- The query of one table with these filters and columns, ordered by rowid.
abbrev pub ordered_query : ℕ → List Term → List Term → Query
ordered_query tree filters project = plain_query tree filters project ((col 1 0, ascending Binary) ∷ [])

-- The text is this query in the schema, with no inputs other than its parameters.
abbrev pub IsQueryIn : Schema → List ℕ → Query → Type 0
IsQueryIn schema text q = (names : List (List ℕ))
    × (command_of (understood schema text) ≡ Select (whole_program q) names)
    × (reads_listing schema text ≡ false) × IsPlain (understood schema text)

-- The text is this query in the schema of a store with any additions.
abbrev pub IsQueryText : List ℕ → Query → Type 0
IsQueryText text q = (added : Additions) → IsQueryIn (schema_with added) text q

module _ {X : Type 0} (num : X → ℕ) (stored : X → Row) (cells : X → List Cell) (tree : ℕ) (project : List Term)
    (params : Row) (filters : List Term) (p : X → Bool)
    (test : (x : X) → list_all (holds (params ∷ stored x ∷ [])) filters ≡ p x)
    (shows : (x : X) → output (ordered_query tree filters project) (params ∷ stored x ∷ []) ≡
    (Int (pos (num x)) ∷ [], values (cells x))) where
  abbrev query : Query
  query = ordered_query tree filters project

  abbrev out_of : X → Output
  out_of x = (Int (pos (num x)) ∷ [], values (cells x))

  output_before_later : (a : ℕ) (x : X) (xs : List X) → num x ≤ a → AreIncreasingAbove num a xs
      → AllByRecursion (λ b. output_cmp query (out_of x) b ≡ Less) (map out_of xs)
  output_before_later a x [] le up = tt
  output_before_later a x (y ∷ ys) le up = grind (arith, common_steps, int_value_less, output_before_later (num y) x ys)

  outputs_ascend : (a : ℕ) (xs : List X) → AreIncreasingAbove num a xs
      → IsAscending (λ a b. output_cmp query a b ≡ Less) (map out_of xs)
  outputs_ascend a [] up = tt
  outputs_ascend a (x ∷ xs) up = (output_before_later (num x) x xs (omega arith) up.1, outputs_ascend (num x) xs up.1)

  -- The query returns exactly the rows that pass, in ascending order.
  pub answer_rows : (db : Trees) (xs : List X) (out : List Row) → AreKeyed stored num xs (db tree)
      → IsAnswer query (overlay db []) params out → out ≡ map values (map cells (filter p xs))
  answer_rows db xs out held a =
      let outputs : a.kept ≡ map out_of (filter p xs) = a.distinct ∙ ap (map (output query)) (a.grouped
      ∙ ap (flat_map (λ r. cond (list_all (holds (params ∷ r ∷ [])) filters) ((params ∷ r ∷ []) ∷ []) []))
      (no_lets db tree ∙ held.rows) ∙ staged_rows_pass stored params filters p test xs)
      ∙ map_shows (output query) (λ x. params ∷ stored x ∷ []) out_of shows (filter p xs) in
      let ordered : a.ordered ≡ map out_of (filter p xs) =
      sorted_unique (output_cmp query) (output_cmp_total query) _ a.ordered
      (outputs_ascend 0 (filter p xs) (rising_filter num p 0 xs held.rises))
      (subst (λ k. IsPermutation k a.ordered) outputs a.same) a.sorted in
      a.shown ∙ ap (λ os. page query params (map (λ (o : Output). o.1) os)) ordered
      ∙ map-map (λ (o : Output). o.1) out_of (filter p xs) ∙ sym (map-map values cells (filter p xs))

  pub query_rows : (text : List ℕ) → IsQueryText text query → (old new : State) (xs : List X) (out : List Row)
      → IsStoreSchema old.now.schema → AreKeyed stored num xs (old.now.trees tree) → Shown text params old new out
      → out ≡ map values (map cells (filter p xs))
  query_rows text is old new xs out has held h =
      let it = is has.added in
      let read = reads_as text params old new (schema_with has.added) has.is (Select (whole_program query) it.0) it.1
      it.3 it.2 out h in
      answer_rows old.now.trees xs out held (read.answer Null)

abbrev posting_columns : List Term
posting_columns = col 1 0 ∷ col 1 2 ∷ col 1 3 ∷ col 1 4 ∷ col 1 5 ∷ col 1 6 ∷ []

abbrev move_columns : List Term
move_columns = col 1 0 ∷ col 1 2 ∷ col 1 3 ∷ col 1 4 ∷ []

-- The columns that the query for a table returns.
abbrev columns_of : Table → List Term
columns_of table.Meta = col 1 0 ∷ col 1 2 ∷ col 1 3 ∷ []
columns_of table.Resource = col 1 0 ∷ col 1 2 ∷ col 1 3 ∷ col 1 4 ∷ col 1 5 ∷ []
columns_of table.Outside = col 1 0 ∷ col 1 2 ∷ []
columns_of table.Label = col 1 1 ∷ col 1 2 ∷ col 1 3 ∷ col 1 4 ∷ []
columns_of table.Link = col 1 1 ∷ col 1 2 ∷ col 1 3 ∷ []
columns_of table.Hier = col 1 1 ∷ col 1 2 ∷ col 1 3 ∷ []
columns_of table.Posting = posting_columns
columns_of table.Move = move_columns

pub table_query_text : (p : Table) → IsQueryText (read_text p) (ordered_query (tree_of p) [] (columns_of p))
unfolding understood everything
table_query_text table.Meta added = (_, refl, refl, (refl, refl))
table_query_text p added = (_, refl, refl, (refl, refl))

module _ (tree : ℕ) (project : List Term) (of : Row → Row)
    (shows : (row : Row) → output (ordered_query tree [] project) ([] ∷ row ∷ []) ≡ (rowid row ∷ [], of row)) where
  abbrev table_query : Query
  table_query = ordered_query tree [] project

  abbrev row_out : Row → Output
  row_out row = (rowid row ∷ [], of row)

  rows_later : (row : Row) (rows : List Row) → AllByRecursion (λ r. value_cmp (rowid row) (rowid r) ≡ Less) rows
      → AllByRecursion (λ b. output_cmp table_query (row_out row) b ≡ Less) (map row_out rows)
  rows_later row [] all = tt
  rows_later row (r ∷ rows) all = (let lt = all.0 in rw lt refl, rows_later row rows all.1)

  rows_strict : (rows : List Row) → IsTable rows
      → IsAscending (λ a b. output_cmp table_query a b ≡ Less) (map row_out rows)
  rows_strict [] up = tt
  rows_strict (row ∷ rows) up = (rows_later row rows up.0, rows_strict rows up.1)

  -- A query without a filter returns the columns of all rows.
  pub rows_read : (text : List ℕ) → IsQueryText text table_query → (old new : State) (out : List Row)
      → IsStoreSchema old.now.schema → IsTable (old.now.trees tree) → Shown text [] old new out
      → out ≡ map of (old.now.trees tree)
  rows_read text is old new out has up h =
      let rows = old.now.trees tree in
      let it = is has.added in
      let read = reads_as text [] old new (schema_with has.added) has.is (Select (whole_program table_query) it.0) it.1
      it.3 it.2 out h in
      let a : IsAnswer table_query (overlay old.now.trees []) [] out = read.answer Null in
      let outputs : a.kept ≡ map row_out rows = a.distinct ∙ ap (map (output table_query)) (a.grouped
      ∙ ap (flat_map (λ r. cond (list_all (holds ([] ∷ r ∷ [])) []) (([] ∷ r ∷ []) ∷ []) []))
      (no_lets old.now.trees tree) ∙ each rows) ∙ map_shows (output table_query) (λ row. [] ∷ row ∷ []) row_out shows
      rows in
      let ordered : a.ordered ≡ map row_out rows =
      sorted_unique (output_cmp table_query) (output_cmp_total table_query) _ a.ordered (rows_strict rows up)
      (subst (λ k. IsPermutation k a.ordered) outputs a.same) a.sorted in
      a.shown ∙ ap (λ os. page table_query [] (map (λ (o : Output). o.1) os)) ordered
      ∙ map-map (λ (o : Output). o.1) row_out rows
    where
      each : (rs : List Row) → flat_map (λ (r : Row). ([] ∷ r ∷ []) ∷ []) rs ≡ map (λ r. [] ∷ r ∷ []) rs
      each [] = refl
      each (r ∷ rs) = ap (λ l. ([] ∷ r ∷ []) ∷ l) (each rs)

pub rows_of_any_table : (p : Table) (old new : State) (out : List Row) → IsReadable old.now
    → Shown (read_text p) [] old new out → out ≡ rows_in_trees p old.now.trees
rows_of_any_table table.Meta old new out is h = rows_read (tree_of table.Meta) (columns_of table.Meta)
    (λ row. map (column row) (places_of table.Meta)) (λ row. refl) (read_text table.Meta)
    (table_query_text table.Meta) old new
    out is.schema (is.ordered table.Meta) h
rows_of_any_table p old new out is h = rows_read (tree_of p) (columns_of p) (λ row. map (column row) (places_of p))
    (λ row. refl) (read_text p) (table_query_text p) old new out is.schema (is.ordered p) h

abbrev pub keyed_text : List ℕ
keyed_text = codes "SELECT num, pkey, record, first_at, at, withdrawn FROM posting WHERE pkey = ?1 ORDER BY num"

pub keyed_is : IsQueryText keyed_text (ordered_query 8 (equal_terms (col 1 2) (col 0 0) ∷ []) posting_columns)
unfolding understood everything
keyed_is added = (_, refl, refl, (refl, refl))

pub keyed_is_query : IsQuery keyed_text
unfolding everything
keyed_is_query = refl

abbrev pub numbered_text : List ℕ
numbered_text = codes "SELECT num, pkey, record, first_at, at, withdrawn FROM posting WHERE num = ?1 ORDER BY num"

pub numbered_is : IsQueryText numbered_text (ordered_query 8 number_filter posting_columns)
unfolding understood everything
numbered_is added = (_, refl, refl, (refl, refl))

pub numbered_is_query : IsQuery numbered_text
unfolding everything
numbered_is_query = refl

pub standing_is : IsQueryText assigned_text (ordered_query 8
    place_filter posting_columns)
unfolding understood everything
standing_is added = (_, refl, refl, (refl, refl))

pub standing_is_query : IsQuery assigned_text
unfolding everything
standing_is_query = refl

pub standing_numbers_is : IsQueryText assigned_numbers_text (ordered_query 8
    place_filter (col 1 0 ∷ []))
unfolding understood everything
standing_numbers_is added = (_, refl, refl, (refl, refl))

pub standing_numbers_is_query : IsQuery assigned_numbers_text
unfolding everything
standing_numbers_is_query = refl

abbrev pub moving_text : List ℕ
moving_text = codes "SELECT num, posting, source, target FROM move WHERE posting = ?1 ORDER BY num"

pub moving_is : IsQueryText moving_text (ordered_query 10 (equal_terms (col 1 2) (col 0 0) ∷ []) move_columns)
unfolding understood everything
moving_is added = (_, refl, refl, (refl, refl))

pub moving_is_query : IsQuery moving_text
unfolding everything
moving_is_query = refl

-- A query of table posting with a filter returns the postings that pass the test.
postings_shown : (text : List ℕ) (params : Row) (filters : List Term) (p : PostingRow → Bool)
    → ((x : PostingRow) → list_all (holds (params ∷ stored_posting x ∷ [])) filters ≡ p x)
    → IsQueryText text (ordered_query 8 filters posting_columns)
    → (old new : State) (t : Tables) (out : List Row) → Keeps old.now t → Shown text params old new out
    → out ≡ map values (map posting_cells (filter p t.posting))
postings_shown text params filters p test is old new t out kept h = query_rows (λ (row : PostingRow). row.number)
    stored_posting posting_cells 8 posting_columns params filters p test (λ row. refl) text is old new t.posting out
    kept.schema kept.hold.posting h

pub rows_with_key : (key : List ℕ) (old new : State) (t : Tables) (out : List Row) → Keeps old.now t
    → Shown keyed_text (Words key ∷ []) old new out → out ≡ map values (cells_with_key key t)
rows_with_key key = postings_shown keyed_text (Words key ∷ []) (equal_terms (col 1 2) (col 0 0) ∷ [])
    (λ x. eq_by_cmp (slice_cmp nat_cmp) x.key key) (λ x. and-true _ ∙ same_words x.key key) keyed_is

pub row_with_number : (n : ℕ) (old new : State) (t : Tables) (out : List Row) → Keeps old.now t
    → Shown numbered_text (Int (pos n) ∷ []) old new out → out ≡ map values (cells_with_number n t)
row_with_number n = postings_shown numbered_text (Int (pos n) ∷ []) number_filter
    (λ x. x.number == n) (by_number [] n) numbered_is

pub rows_at_concept : (concept : ℕ) (old new : State) (t : Tables) (out : List Row) → Keeps old.now t
    → Shown assigned_text (Int (pos concept) ∷ []) old new out → out ≡ map values (cells_at_concept concept t)
rows_at_concept concept = postings_shown assigned_text (Int (pos concept) ∷ [])
    place_filter
    (λ x. not x.withdrawn && x.place == concept) (by_place [] concept) standing_is

pub numbers_at_concept : (concept : ℕ) (old new : State) (t : Tables) (out : List Row) → Keeps old.now t
    → Shown assigned_numbers_text (Int (pos concept) ∷ []) old new out
    → out ≡ map values (number_cells_at_concept concept t)
numbers_at_concept concept old new t out kept h = query_rows (λ (row : PostingRow). row.number) stored_posting
    (λ (row : PostingRow). number_cell row.number ∷ []) 8 (col 1 0 ∷ []) (Int (pos concept) ∷ [])
    place_filter
    (λ x. not x.withdrawn && x.place == concept) (by_place [] concept) (λ row. refl) assigned_numbers_text
    standing_numbers_is old new t.posting out kept.schema kept.hold.posting h

pub rows_of_moves : (n : ℕ) (old new : State) (t : Tables) (out : List Row) → Keeps old.now t
    → Shown moving_text (Int (pos n) ∷ []) old new out → out ≡ map values (cells_of_moves n t)
rows_of_moves n old new t out kept h = query_rows (λ (row : MoveRow). row.number) stored_move move_cells 10 move_columns
    (Int (pos n) ∷ []) (equal_terms (col 1 2) (col 0 0) ∷ []) (λ x. x.posting == n)
    (λ x. and-true _ ∙ same_ints x.posting n)
    (λ row. refl) moving_text moving_is old new t.move out kept.schema kept.hold.move h

abbrev pub meta_text : List ℕ
meta_text = read_text table.Meta

abbrev version_cells : ℕ × List ℕ → List Cell
version_cells x = number_cell 1 ∷ number_cell x.0 ∷ cells.Text x.1 ∷ []

pub old_meta_query_text : IsQueryIn old_schema meta_text (ordered_query 0 [] (columns_of table.Meta))
unfolding understood everything
old_meta_query_text = (_, refl, refl, (refl, refl))

version_in_turn : (version : ℕ) (base : List ℕ) (db : Trees) (out : List Row) → db 0 ≡ stored_version version base ∷ []
    → IsAnswer (ordered_query 0 [] (columns_of table.Meta)) (overlay db []) [] out → out ≡ version_row version base ∷ []
version_in_turn version base db out is a =
    answer_rows (λ (x : ℕ × List ℕ). 1) (λ (x : ℕ × List ℕ). stored_version x.0 x.1)
    version_cells 0 (columns_of table.Meta) [] [] (λ x. true) (λ x. refl) (λ x. refl) db ((version, base) ∷ []) out
    (record { rises = (lit< tt, tt); rows = is }) a

module _ (sql : List ℕ) (db : Database) (schema : Schema) (has : db.schema ≡ schema) (q : Program)
    (names : List (List ℕ)) (is : command_of (understood schema sql) ≡ Select q names)
    (unlisted : reads_listing schema sql ≡ false) where
  module _ (c : Compiled) (known : understood db.schema sql ≡ Ok c) (source : Database)
      (from : IsSourceOf (reads_listing db.schema sql) db source) where
    command_found : c.command ≡ Select q names
    command_found = ap command_of (sym known ∙ ap (λ s. understood s sql) has) ∙ is

    source_found : source ≡ db
    source_found = subst (λ b. IsSourceOf b db source) (ap (λ s. reads_listing s sql) has ∙ unlisted) from

  -- The rows that the query finds are those that its command reads.
  found_answers : (rows : List Row) → Finds sql db (Some rows) → Reads (Select q names) db [] rows
  found_answers rows h = subst₂ (λ k d. Reads k d [] rows) (command_found h.0 h.1 h.2 h.3)
      (source_found h.0 h.1 h.2 h.3) h.4

  -- A query that compiles, and whose values aren't refused, finds rows.
  found_some : is_ok (understood schema sql) ≡ true
      → ((e : Error) → RefusesQuery None db q [] e → ⊥) → Finds sql db None → ⊥
  found_some well none (inl no_query) =
      let e = sym no_query ∙ ap (λ s. is_ok (understood s sql)) has ∙ well in cc
  found_some well none (inr h) = none h.4 (subst₂ (λ k d. RefusesToRead None k d [] h.4)
      (command_found h.0 h.1 h.2 h.3) (source_found h.0 h.1 h.2 h.3) h.5)

-- The query for table meta finds its row, in the schema of either version.

abbrev meta_query : Query
meta_query = ordered_query 0 [] (columns_of table.Meta)

-- The query compiles in the schema, and the types of its values are accepted.
abbrev AcceptsMeta : Schema → Type 0
AcceptsMeta schema = (is_ok (understood schema meta_text) ≡ true) × (accepts_program schema [] meta_query [] ≡ true)

accepts_meta : (added : Additions) → AcceptsMeta (schema_with added)
unfolding understood everything
accepts_meta added = (refl, refl)

old_accepts_meta : AcceptsMeta old_schema
unfolding understood everything
old_accepts_meta = (refl, refl)

meta_not_refused : (db : Database) (schema : Schema) → db.schema ≡ schema
    → accepts_program schema [] meta_query [] ≡ true → (e : Error)
    → RefusesQuery None db (whole_program meta_query) [] e → ⊥
meta_not_refused db schema has typed e h = grind (arith, common_steps, no_fold_overflows)

pub version_found : (version : ℕ) (base : List ℕ) (db : Database) (found : Option (List Row))
    → IsStoreOfVersion version base db → Finds meta_text db found → found ≡ Some (version_row version base ∷ [])
version_found version base db (Some out) (inl known, is) h =
    let asks = table_query_text table.Meta known.added in
    ap Some (version_in_turn version base db.trees out is
    ((found_answers meta_text db (schema_with known.added) known.is _ asks.0 asks.1 asks.2 out h).answer Null))
version_found version base db (Some out) (inr has, is) h =
    let asks = old_meta_query_text in
    ap Some (version_in_turn version base db.trees out is
    ((found_answers meta_text db old_schema has _ asks.0 asks.1 asks.2 out h).answer Null))
version_found version base db None (inl known, is) h =
    let asks = table_query_text table.Meta known.added in
    let accepts = accepts_meta known.added in
    absurd (found_some meta_text db (schema_with known.added) known.is _ asks.0 asks.1 asks.2 accepts.0
    (meta_not_refused db (schema_with known.added) known.is accepts.1) h)
version_found version base db None (inr has, is) h =
    let asks = old_meta_query_text in
    absurd (found_some meta_text db old_schema has _ asks.0 asks.1 asks.2 old_accepts_meta.0
    (meta_not_refused db old_schema has old_accepts_meta.1) h)
