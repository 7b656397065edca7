-- Proves which items a sink receives for a table, and for the postings of a concept.
use Rattle.std.proofs.lemmas.Grind.{common_steps}
use Rattle.std.proofs.Common.{arith, ◌≡◌, ℕ, pos, List, [], ◌∷◌, ◌++◌, map, Option, Some, None, Result, Ok, Err, true}
use Rattle.std.proofs.Common.{sym, refl, subst, ap, ◌∙◌, append_assoc, append-nil}
use Rattle.sqlite.specs.declared.types.Value.TheVariants.{Int}
use Rattle.sqlite.specs.Order.{Row}
use Rattle.sqlite.specs.Effect.{Database}
use Rattle.sqlite.specs.State.{State, Shown, FailsToQuery}
use Rattle.sqlite.specs.declared.error.Error.TheVariants.{SqlInputError}
use Rattle.sqlite_resolve.specs.declared.error.CompileError.{CompileError}
use Rattle.thes_base.specs.declared.fault.Table.{Table}
use Rattle.thes_base.specs.declared.fault.Fault.{Fault}
use Rattle.thes_tables.specs.declared.cells.Cell.{Cell}
use Rattle.thes_tables.specs.declared.rows.PostingRow.{PostingRow}
use Rattle.thes_tables.specs.Tables.{Tables}
use Rattle.thes_tables.specs.Cells.{posting_cells, number_cell}
use Rattle.thes_store.specs.Reading.{assigned_posting_rows, row_number, assigned_row_numbers}
use Rattle.thes_store.specs.Sinks.{SinkAcceptsAll, sink_rows_of_table}
use Rattle.thes_sql.specs.StoredRows.{Keeps, values}
use Rattle.thes_sql.specs.Declarations.{declares}
use Rattle.thes_sql.specs.Queries.{Finds}
use Rattle.thes_sql.specs.Reads.{read_text, assigned_text, assigned_numbers_text, number_cells_at_concept}
use Rattle.thes_sql.specs.Reads.{rows_in_trees, IsReadable}
use Rattle.thes_sql.proofs.QueryTextLemmas.{table_is_query}
use Rattle.thes_sql.proofs.ReadFrameLemmas.{found_result, fails_to_find, is_understood}
use Rattle.thes_sql.proofs.SelectLemmas.{rows_of_any_table, rows_at_concept, numbers_at_concept, table_query_text}
use Rattle.thes_sql.proofs.FirstRowLemmas.{rows_begin_table, rows_begin_assigned, rows_begin_numbers}
use Rattle.thes_sqlite.specs.KeeperView.{raw_table}
use Rattle.thes_sqlite.specs.ValueCells.{cell_of}
use Rattle.thes_sqlite.specs.FoundRows.{PassesTable}
use Rattle.thes_sqlite.proofs.RowStreamLemmas.{AreRowsOf, Wants}

-- The item that a sink gets for a row of this table.
abbrev pub IsTableRow : Table → Row → Table × Option (List Cell) → Type 0
IsTableRow p row x = x ≡ (p, Some (map cell_of row))

-- The posting that a row of table posting encodes.
abbrev pub IsPostingRow : Row → PostingRow → Type 0
IsPostingRow row x = row ≡ values (posting_cells x)

table_items : (p : Table) (rows : List Row)
    → AreRowsOf (IsTableRow p) rows (sink_rows_of_table p (Some (map (map cell_of) rows)))
table_items p [] = tt
table_items p (row ∷ rows) = (refl, table_items p rows)

posting_items : (xs : List PostingRow) → AreRowsOf IsPostingRow (map values (map posting_cells xs)) xs
posting_items [] = tt
posting_items (x ∷ xs) = (refl, posting_items xs)

pub table_wants : (p : Table) (db : State) → IsReadable db.now
    → Wants (IsTableRow p) (read_text p) [] db (sink_rows_of_table p (raw_table p db.now.trees))
table_wants p db is = record {
  whole = λ s new rows same shown. items rows (rows_of_any_table p s new rows
      (subst (λ (d : Database). IsReadable d) (sym same) is) shown ∙ in_trees s same);
  part = λ s rows same still begun.
      let more = rows_begin_table p s rows (subst (λ (d : Database). IsReadable d) (sym same) is) still begun in
      (more.0, items (rows ++ more.0) (more.1 ∙ in_trees s same));
}
  where
    in_trees : (s : State) → s.now ≡ db.now → rows_in_trees p s.now.trees ≡ rows_in_trees p db.now.trees
    in_trees s same = ap (λ (d : Database). rows_in_trees p d.trees) same

    items : (rows : List Row) → rows ≡ rows_in_trees p db.now.trees
        → AreRowsOf (IsTableRow p) rows (sink_rows_of_table p (raw_table p db.now.trees))
    items rows e =
        subst (λ l. AreRowsOf (IsTableRow p) l (sink_rows_of_table p (raw_table p db.now.trees))) (sym e)
        (table_items p (rows_in_trees p db.now.trees))

pub assigned_wants : (concept : ℕ) (db : State) (t : Tables) → Keeps db.now t
    → Wants IsPostingRow assigned_text (Int (pos concept) ∷ []) db (assigned_posting_rows concept t.posting)
assigned_wants concept db t keeps = record {
  whole = λ s new rows same shown. items rows
      (rows_at_concept concept s new t rows (subst (λ (d : Database). Keeps d t) (sym same) keeps) shown);
  part = λ s rows same still begun.
      let more = rows_begin_assigned concept s t rows (subst (λ (d : Database). Keeps d t) (sym same) keeps) still
      begun in
      (more.0, items (rows ++ more.0) more.1);
}
  where
    items : (rows : List Row) → rows ≡ map values (map posting_cells (assigned_posting_rows concept t.posting))
        → AreRowsOf IsPostingRow rows (assigned_posting_rows concept t.posting)
    items rows e = subst (λ l. AreRowsOf IsPostingRow l (assigned_posting_rows concept t.posting)) (sym e)
        (posting_items (assigned_posting_rows concept t.posting))

-- The number that a row of one column encodes.
abbrev pub IsNumberRow : Row → ℕ → Type 0
IsNumberRow row n = row ≡ Int (pos n) ∷ []

number_items : (xs : List PostingRow)
    → AreRowsOf IsNumberRow (map values (map (λ (x : PostingRow). number_cell x.number ∷ []) xs)) (map row_number xs)
number_items [] = tt
number_items (x ∷ xs) = (refl, number_items xs)

pub numbers_wanted : (concept : ℕ) (db : State) (t : Tables) → Keeps db.now t
    → Wants IsNumberRow assigned_numbers_text (Int (pos concept) ∷ []) db (assigned_row_numbers concept t.posting)
numbers_wanted concept db t keeps = record {
  whole = λ s new rows same shown. items rows
      (numbers_at_concept concept s new t rows (subst (λ (d : Database). Keeps d t) (sym same) keeps) shown);
  part = λ s rows same still begun.
      let more = rows_begin_numbers concept s t rows (subst (λ (d : Database). Keeps d t) (sym same) keeps) still
      begun in
      (more.0, items (rows ++ more.0) more.1);
}
  where
    items : (rows : List Row) → rows ≡ map values (number_cells_at_concept concept t)
        → AreRowsOf IsNumberRow rows (assigned_row_numbers concept t.posting)
    items rows e = subst (λ l. AreRowsOf IsNumberRow l (assigned_row_numbers concept t.posting)) (sym e)
        (number_items (assigned_posting_rows concept t.posting))

-- A list takes a number by appending it; a fault may leave any list.
abbrev pub AppendsNumber : List ℕ → ℕ → Result (Unit {0}) Fault → List ℕ → Type 0
AppendsNumber old n (Ok done) new = new ≡ old ++ n ∷ []
AppendsNumber old n (Err fault) new = Unit {0}

pub numbers_appended : (old new xs : List ℕ) → SinkAcceptsAll AppendsNumber old xs new → new ≡ old ++ xs
numbers_appended old new [] took = took ∙ sym (append-nil old)
numbers_appended old new (n ∷ xs) (mid, first, rest) =
    numbers_appended mid new xs rest ∙ ap (λ (l : List ℕ). l ++ xs) first ∙ append_assoc old (n ∷ []) xs

-- A sink that accepts the items of an answer's rows accepts the rows that the table's query finds.
pub table_passed : {R : Type 0} (gives : R → Table × Option (List Cell) → Result (Unit {0}) Fault → R → Type 0)
    (p : Table) (first mid new : State) (before after : R) (rows : List Row) → declares first.now.schema p ≡ true
    → mid.now ≡ first.now → Shown (read_text p) [] mid new rows
    → ((xs : List (Table × Option (List Cell))) → AreRowsOf (IsTableRow p) rows xs
    → SinkAcceptsAll gives before xs after) → PassesTable gives p first.now before after
table_passed gives p first mid new before after rows declared same shown accepts =
    let found = (found_result (read_text p) mid new (table_is_query p) {V = List Row} (λ l. l) (Ok rows) shown tt).0
    in (
      Some (map (map cell_of) rows),
      (declared, (rows, subst (λ (d : Database). Finds (read_text p) d (Some rows)) same found, refl)),
      accepts (sink_rows_of_table p (Some (map (map cell_of) rows))) (table_items p rows),
    )

-- A query that doesn't compile finds nothing.
pub input_finds_none : (p : Table) (old new : State) (fault : CompileError)
    → FailsToQuery (read_text p) [] old new (SqlInputError fault) → Finds (read_text p) old.now None
input_finds_none p old new fault h = grind (arith, common_steps, fails_to_find, table_is_query)

-- The query of a table compiles in the schema of a store.
pub never_input : (p : Table) (old new : State) → IsReadable old.now → (fault : CompileError)
    → FailsToQuery (read_text p) [] old new (SqlInputError fault) → ⊥
never_input p old new is fault h =
    let it = table_query_text p is.schema.added in
    is_understood (read_text p) [] old new _ it.0 _ is.schema.is it.1 it.3 _ fault h refl
