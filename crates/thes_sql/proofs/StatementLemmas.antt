-- Proves the effects of a statement on the rows of one table, for any table.
use Rattle.std.proofs.Common.{arith, ◌≡◌, ◌≢◌, ℕ, pos, List, [], ◌∷◌, map, filter, flat_map, slice_get, drop, ◌-◌, Bool}
use Rattle.std.proofs.Common.{true, not, cond, if◌then◌else◌, Some, Ok, refl, sym, ap, subst, ◌∙◌}
use Rattle.std.proofs.lemmas.Grind.{common_steps}
use Rattle.std.specs.List.{AllByRecursion, list_all}
use Rattle.std.specs.List.Sorted.{IsPermutation}
use Rattle.std.proofs.lemmas.List.Sorted.{IsPermutation-map}
use Rattle.sqlite.specs.declared.types.Value.TheVariants.{Null, Int}
use Rattle.sqlite.specs.Order.{Row}
use Rattle.sqlite.specs.Term.{Term, col, holds}
use Rattle.sqlite.specs.Query.{Query, IsAnswer, output, Output}
use Rattle.sqlite.specs.Program.{overlay}
use Rattle.sqlite.specs.Command.TheVariants.{Update, Delete}
use Rattle.sqlite.specs.Edit.{edit_of, edited}
use Rattle.sqlite_rules.specs.Calls.{ids_of}
use Rattle.sqlite_rules.specs.Cast.{cast_row}
use Rattle.sqlite_rules.specs.Edit.{are_fresh, without_all, numbered}
use Rattle.sqlite.specs.Rowids.TheVariants.{Given}
use Rattle.sqlite.specs.Tree.{Trees}
use Rattle.sqlite_trees.specs.Tree.{rowid}
use Rattle.sqlite.specs.Effect.{Answers}
use Rattle.sqlite.specs.Schema.{Schema}
use Rattle.sqlite.specs.Table.{Table}
use Rattle.sqlite.specs.Listing.{understood}
use Rattle.sqlite.specs.State.{State, Executes}
use Rattle.sqlite.proofs.Callers.{statement_of, runs_as}
use Rattle.sqlite_keyed.proofs.ListLemmas.{map-map}
use Rattle.thes_sql.specs.Additions.{IsStoreSchema, LeavesUserTables, schema_with, store_tables}
use Rattle.thes_sql.specs.StoredRows.{AreKeyed}
use Rattle.thes_sql.proofs.StatementTextLemmas.{plain_query, whole_program, IsCommandText}
use Rattle.thes_sql.proofs.ForeignKeyLemmas.{LeavesOtherTables, get_first, writes_alone}
use Rattle.thes_sql.proofs.WriteEffectLemmas.{update_effect, delete_effect}
use Rattle.thes_sql.proofs.KeyedRowLemmas.{many_updated, many_dropped, change_num, rising_map, rising_filter}

-- The statement rewrites one table of a store: its tree satisfies `Holds`. The schema and the other tables are
-- unchanged, also those of a user that no foreign key's action changes.
pub record Rewrites (tree : ℕ) (Holds : List Row → Type 0) (old new : State) : Type 0 where
  pub schema : new.now.schema ≡ old.now.schema
  pub rows : Holds (new.now.trees tree)
  pub others : LeavesOtherTables tree old.now.trees new.now.trees
  pub users : LeavesUserTables old.now.schema old.now.trees new.now.trees

-- If `P` implies `Q` for the new rows, a statement that rewrites the table so that `P` holds rewrites it so that `Q`
-- holds.
pub rewrites_as : (tree : ℕ) {P Q : List Row → Type 0} (old new : State)
    → (P (new.now.trees tree) → Q (new.now.trees tree)) → Rewrites tree P old new → Rewrites tree Q old new
rewrites_as tree old new tell w = record {
  schema = w.schema;
  rows = tell w.rows;
  others = w.others;
  users = w.users;
}

-- The user's tables are those of an equal schema.
pub users_as : {a b : Schema} {old new : Trees} → a ≡ b → LeavesUserTables b old new → LeavesUserTables a old new
users_as {a} {b} {old} {new} same left = subst (λ s. LeavesUserTables s old new) (sym same) left

-- A query without subqueries, views and CTEs reads the database's own tables.
pub no_lets : (db : Trees) (t : ℕ) → overlay db [] t ≡ db t
no_lets db t = grind (arith, common_steps)

-- Mapping a function and then another is mapping their composition.
pub map_shows : {X A B : Type 0} (f : A → B) (g : X → A) (h : X → B) → ((x : X) → f (g x) ≡ h x) → (xs : List X)
    → map f (map g xs) ≡ map h xs
map_shows f g h shows [] = refl
map_shows f g h shows (x ∷ xs) = grind (arith, common_steps, shows, map_shows f g h shows xs)

-- Assumes a query of one table with a test on its rows.
module _ {X : Type 0} (stored : X → Row) (params : Row) (filters : List Term) (p : X → Bool) (test : (x : X)
    → list_all (holds (params ∷ stored x ∷ [])) filters ≡ p x) where
  abbrev pub staged_rows : List X → List (List Row)
  staged_rows xs = flat_map (λ r. cond (list_all (holds (params ∷ r ∷ [])) filters) ((params ∷ r ∷ []) ∷ []) [])
      (map stored xs)

  pub staged_rows_pass : (xs : List X) → staged_rows xs ≡ map (λ x. params ∷ stored x ∷ []) (filter p xs)
  staged_rows_pass [] = refl
  staged_rows_pass (x ∷ xs) = grind (arith, common_steps, test, staged_rows_pass xs)

  module _ (tree : ℕ) (project : List Term) (shown : X → Row) (shows : (x : X)
      → output (plain_query tree filters project []) (params ∷ stored x ∷ []) ≡ ([], shown x)) where
    abbrev query : Query
    query = plain_query tree filters project []

    abbrev out_of : X → Output
    out_of x = ([], shown x)

    -- The query returns the rows that pass, in any order.
    pub answer_permutes : (schema : Schema) (db : Trees) (xs : List X) (given : List Row) → db tree ≡ map stored xs
        → Answers (record { schema = schema; trees = db }) (whole_program query) params given
        → IsPermutation (map shown (filter p xs)) given
    answer_permutes schema db xs given is h =
        let a : IsAnswer query (overlay db []) params given = h.answer Null in
        let staged : a.staged ≡ map (λ x. params ∷ stored x ∷ []) (filter p xs) =
        a.grouped ∙ ap (flat_map (λ r. cond (list_all (holds (params ∷ r ∷ [])) filters) ((params ∷ r ∷ []) ∷ []) []))
        (no_lets db tree ∙ is) ∙ staged_rows_pass xs in
        let outputs : a.kept ≡ map out_of (filter p xs) = a.distinct ∙ ap (map (output query)) staged
        ∙ map_shows (output query) (λ x. params ∷ stored x ∷ []) out_of shows (filter p xs) in
        subst (λ l. IsPermutation l given) (map-map (λ (o : Output). o.1) out_of (filter p xs))
        (subst (IsPermutation (map (λ (o : Output). o.1) (map out_of (filter p xs)))) (sym a.shown)
        (IsPermutation-map (λ (o : Output). o.1) (map out_of (filter p xs)) a.ordered
        (subst (λ k. IsPermutation k a.ordered) outputs a.same)))

-- Assumes a table of a store, and a statement on it.
module _ {X : Type 0} (num : X → ℕ) (stored : X → Row) (is_num : (x : X) → rowid (stored x) ≡ Int (pos (num x)))
    (at : ℕ) (table : Table) (is_at : slice_get store_tables at ≡ Some table)
    (text : List ℕ) (params : Row) (filters : List Term) (p : X → Bool) (test : (x : X)
    → list_all (holds (params ∷ stored x ∷ [])) filters ≡ p x) where
  abbrev HoldsKeyedRows : List X → List Row → Type 0
  HoldsKeyedRows = AreKeyed stored num

  -- A DELETE of the rows that pass leaves the other rows.
  pub deletes : (is : IsCommandText text (Delete at (whole_program (plain_query table.tree filters (col 1 0 ∷ []) []))))
      → ((x : X) → output (plain_query table.tree filters (col 1 0 ∷ []) []) (params ∷ stored x ∷ []) ≡
      ([], Int (pos (num x)) ∷ []))
      → (old new : State) (xs : List X) (count : ℕ) → IsStoreSchema old.now.schema
      → HoldsKeyedRows xs (old.now.trees table.tree) → Executes text params old new (Ok count)
      → Rewrites table.tree (HoldsKeyedRows (filter (λ x. not (p x)) xs)) old new
  deletes is shows old new xs count has held h =
      let db = old.now.trees in
      let q = whole_program (plain_query table.tree filters (col 1 0 ∷ []) []) in
      let schema = schema_with has.added in
      let means = is has.added in
      let w = runs_as text params old new schema has.is (Delete at q) means.0 means.1 count h in
      let did = delete_effect schema at table params (statement_of text (understood schema text)) old new count has.is
      (get_first store_tables has.added.tables at table is_at) (writes_alone has.added has.apart at table is_at) q w in
      let given = answer_permutes stored params filters p test table.tree (col 1 0 ∷ [])
      (λ x. Int (pos (num x)) ∷ []) shows schema db xs did.0 held.rows did.1 in
      let left = many_dropped num stored is_num p xs held.rises did.0 (λ x. Int (pos (num x)) ∷ []) given (λ x. refl) in
      record {
        schema = did.2 ∙ sym has.is;
        rows = record {
          rises = rising_filter num (λ x. not (p x)) 0 xs held.rises;
          rows = did.3.rows
              ∙ ap (λ (l : List Row). without_all l (ids_of did.0)) held.rows ∙ left;
        };
        others = did.3.others;
        users = users_as has.is did.3.users;
      }

  -- Assumes an UPDATE of the rows that pass.
  module _ (project : List Term)
      (is : IsCommandText text (Update at (whole_program (plain_query table.tree filters project []))))
      (f : X → X) (keeps : (x : X) → num (f x) ≡ num x)
      (shows : (x : X) → output (plain_query table.tree filters project []) (params ∷ stored x ∷ []) ≡
      ([], Int (pos (num x)) ∷ stored (f x)))
      (casts : (x : X) → cast_row table (stored (f x)) ≡ stored (f x)) where
    abbrev shown : X → Row
    shown x = Int (pos (num x)) ∷ stored (f x)

    abbrev news : List Row → List Row → List Row
    news l given = numbered Given (without_all l (ids_of given)) (map (λ s. cast_row table (drop 1 s)) given)

    -- The tree has the changed rows after the UPDATE.
    pub updates : (old new : State) (xs : List X) (count : ℕ) → IsStoreSchema old.now.schema
        → HoldsKeyedRows xs (old.now.trees table.tree) → Executes text params old new (Ok count)
        → Rewrites table.tree (HoldsKeyedRows (map (λ x. if p x then f x else x) xs)) old new
    updates old new xs count has held h =
        let db = old.now.trees in
        let q = whole_program (plain_query table.tree filters project []) in
        let schema = schema_with has.added in
        let means = is has.added in
        let w = runs_as text params old new schema has.is (Update at q) means.0 means.1 count h in
        let did = update_effect schema at table params (statement_of text (understood schema text)) old new count has.is
        (get_first store_tables has.added.tables at table is_at) (writes_alone has.added has.apart at table is_at) q w
        in
        let given = answer_permutes stored params filters p test table.tree project shown shows schema db xs did.0
        held.rows did.1 in
        let fresh : are_fresh (without_all (map stored xs) (ids_of did.0)) (news (map stored xs) did.0) ≡ true =
        subst (λ (l : List Row). are_fresh (without_all l (ids_of did.0)) (news l did.0) ≡ true) held.rows did.3.fresh
        in
        let changed = many_updated num stored is_num p xs held.rises did.0 shown given (λ x. refl) f keeps
        (λ s. cast_row table (drop 1 s)) casts fresh in
        record {
          schema = did.2 ∙ sym has.is;
          rows = record {
            rises = rising_map num (λ x. if p x then f x else x)
                (change_num num stored is_num p xs held.rises did.0 shown given (λ x. refl) f keeps
                (λ s. cast_row table (drop 1 s)) casts) 0 xs held.rises;
            rows = did.3.rows
                ∙ ap (λ (l : List Row). edited (λ n. l) (edit_of (λ n. l) table (ids_of did.0) Given 1 did.0))
                held.rows ∙ changed;
          };
          others = did.3.others;
          users = users_as has.is did.3.users;
        }
