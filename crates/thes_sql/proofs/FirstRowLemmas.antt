-- Proves that the rows that a query has returned so far are the first rows of its whole answer.
use Rattle.std.proofs.Common.{◌≡◌, ℕ, pos, List, [], ◌∷◌, ◌++◌, sym, ap, subst, ◌∙◌, map}
use Rattle.sqlite.specs.declared.types.Value.TheVariants.{Int}
use Rattle.sqlite.specs.Order.{Row}
use Rattle.sqlite.specs.Effect.{Database}
use Rattle.sqlite.specs.Query.{Query}
use Rattle.sqlite_resolve.specs.declared.compiled.Compiled.{Compiled}
use Rattle.sqlite.specs.Listing.{understood}
use Rattle.sqlite.specs.Clock.{timed}
use Rattle.sqlite.specs.State.{State, Begins, Shown, IsUnchanged, IsStatement}
use Rattle.sqlite.proofs.Callers.{EndsIn, begins_shown, command_of}
use Rattle.thes_base.specs.declared.fault.Table.{Table}
use Rattle.thes_tables.specs.Tables.{Tables}
use Rattle.thes_sql.specs.Additions.{IsStoreSchema}
use Rattle.thes_sql.specs.StoredRows.{Keeps, values}
use Rattle.thes_sql.specs.Reads.{read_text, assigned_text, assigned_numbers_text, cells_at_concept}
use Rattle.thes_sql.specs.Reads.{number_cells_at_concept, rows_in_trees, IsReadable}
use Rattle.thes_sql.proofs.SelectLemmas.{IsQueryText, rows_of_any_table, rows_at_concept, table_query_text, standing_is}
use Rattle.thes_sql.proofs.SelectLemmas.{numbers_at_concept, standing_numbers_is}

-- If a query, which isn't recursive, has returned these rows so far, it has a whole answer that begins with them.
begun_shown : (text : List ℕ) (params : Row) (q : Query) → IsQueryText text q → (s : State) (rows : List Row)
    → IsStoreSchema s.now.schema → IsUnchanged s s → Begins text params s rows
    → (tail : List Row) × Shown text params s s (rows ++ tail)
begun_shown text params q is s rows has same h = begins_shown text params s s rows h same (λ c db it from. ends c db it)
  where
    ends : (c : Compiled) (db : Database) (it : IsStatement s text params c)
        → EndsIn c.command db (timed params c.formats it.now)
    ends c db it = subst (λ k. EndsIn k db (timed params c.formats it.now))
        (sym (ap command_of (sym it.is ∙ ap (λ schema. understood schema text) has.is) ∙ (is has.added).1)) tt

pub rows_begin_table : (p : Table) (s : State) (rows : List Row) → IsReadable s.now → IsUnchanged s s
    → Begins (read_text p) [] s rows → (tail : List Row) × (rows ++ tail ≡ rows_in_trees p s.now.trees)
rows_begin_table p s rows is same h =
    let more = begun_shown (read_text p) [] _ (table_query_text p) s rows is.schema same h in
    (more.0, rows_of_any_table p s s (rows ++ more.0) is more.1)

pub rows_begin_assigned : (concept : ℕ) (s : State) (t : Tables) (rows : List Row) → Keeps s.now t → IsUnchanged s s
    → Begins assigned_text (Int (pos concept) ∷ []) s rows
    → (tail : List Row) × (rows ++ tail ≡ map values (cells_at_concept concept t))
rows_begin_assigned concept s t rows keeps same h =
    let more = begun_shown assigned_text (Int (pos concept) ∷ []) _ standing_is s rows keeps.schema same h in
    (more.0, rows_at_concept concept s s t (rows ++ more.0) keeps more.1)

pub rows_begin_numbers : (concept : ℕ) (s : State) (t : Tables) (rows : List Row) → Keeps s.now t → IsUnchanged s s
    → Begins assigned_numbers_text (Int (pos concept) ∷ []) s rows
    → (tail : List Row) × (rows ++ tail ≡ map values (number_cells_at_concept concept t))
rows_begin_numbers concept s t rows keeps same h =
    let more = begun_shown assigned_numbers_text (Int (pos concept) ∷ []) _ standing_numbers_is s rows keeps.schema same
    h in
    (more.0, numbers_at_concept concept s s t (rows ++ more.0) keeps more.1)
