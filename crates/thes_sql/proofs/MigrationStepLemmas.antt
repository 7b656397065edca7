-- Proves that each statement of a migration takes a store one step from version 1 to version 2.
use Rattle.std.proofs.lemmas.Grind.{common_steps}
use Rattle.std.proofs.Common.{arith, ◌≡◌, ℕ, pos, List, [], ◌∷◌, ◌++◌, map, filter, codes, true, not, Ok, Result, OnOk}
use Rattle.std.proofs.Common.{refl, sym, ap, subst, ◌∙◌, append-nil, append_assoc, lit<, rules}
use Rattle.std.proofs.Math.Bool.{and-true}
use Rattle.std.specs.List.{list_all}
use Rattle.sqlite.specs.declared.types.Value.{Value}
use Rattle.sqlite.specs.declared.types.Value.TheVariants.{Null, Int}
use Rattle.sqlite.specs.declared.error.Error.{Error}
use Rattle.sqlite.specs.Order.{Row}
use Rattle.sqlite.specs.Term.{Term, lit, col, holds}
use Rattle.sqlite.specs.Query.{Query, IsAnswer}
use Rattle.sqlite_value.specs.declared.keys.Collation.TheVariants.{Binary}
use Rattle.sqlite.specs.Source.TheVariants.{Query as Asked}
use Rattle.sqlite.specs.Command.TheVariants.{Insert, Update, Delete}
use Rattle.sqlite.specs.Table.{Table}
use Rattle.sqlite.specs.Tree.{Trees, put_row}
use Rattle.sqlite.specs.Effect.{Database}
use Rattle.sqlite.specs.Edit.{edit_of, edited}
use Rattle.sqlite.specs.Rowids.TheVariants.{Chosen}
use Rattle.sqlite.specs.Listing.{understood}
use Rattle.sqlite.specs.State.{State, Executes, ExecutesInside}
use Rattle.sqlite_tied.specs.Compute.{everything}
use Rattle.sqlite_rules.specs.Edit.{with_rowid, next_rowid, numbered, put_all}
use Rattle.sqlite_rules.specs.Cast.{cast_row}
use Rattle.sqlite.proofs.Callers.{statement_of, runs_as}
use Rattle.sqlite_keyed.proofs.ListLemmas.{map-map, filter-map}
use Rattle.thes_base.specs.declared.data.Link.{Link}
use Rattle.thes_base.specs.Links.{link_kind_no}
use Rattle.thes_base.specs.declared.fault.Table.TheVariants as table
use Rattle.thes_tables.specs.declared.cells.Cell.{Cell}
use Rattle.thes_tables.specs.declared.cells.Cell.TheVariants as cells
use Rattle.thes_tables.specs.declared.rows.HierRow.{HierRow}
use Rattle.thes_tables.specs.Tables.{Tables}
use Rattle.thes_tables.specs.Cells.{number_cell, hier_type_no}
use Rattle.thes_sql.specs.Additions.{schema_with}
use Rattle.thes_sql.specs.Schema.{meta_table, link_table, hier_table, store_schema}
use Rattle.thes_sql.specs.StoredRows.{KeepsIn, AreHidden, hidden_row, values, link_values, hier_values}
use Rattle.thes_tables.specs.OldRows.{is_broader, untyped_row, tables_after_migration}
use Rattle.thes_sql.specs.OldStore.{KeepsAs, IsMigrating, stored_version, tables_with_copied_links, HasEmptyHier, HasCopiedLinks}
use Rattle.thes_sql.specs.OldStore.{HasMovedLinks, IsMigratedStore}
use Rattle.thes_sql.specs.TransactionEffects.{TransformsTables}
use Rattle.thes_sql.proofs.StatementTextLemmas.{plain_query, whole_program, equal_terms, IsCommandText}
use Rattle.thes_sql.proofs.WriteEffectLemmas.{insert_effect, cast_int, cast_null}
use Rattle.thes_sql.proofs.StatementLemmas.{Rewrites, rewrites_as, updates, deletes, users_as}
use Rattle.thes_sql.proofs.ForeignKeyLemmas.{writes_alone}
use Rattle.thes_sql.proofs.HeldTableLemmas.{BecomesAs, other_table_held, becomes_all, becomes_current, becomes_hier}
use Rattle.thes_sql.proofs.HeldTableLemmas.{becomes_link}
use Rattle.thes_sql.proofs.InsertLemmas.{hidden_push, hidden_drop}
use Rattle.thes_sql.proofs.CreateStoreLemmas.{cast_meta}
use Rattle.thes_sql.proofs.SelectLemmas.{ordered_query, answer_rows}
use Rattle.thes_sql.proofs.WhereLemmas.{same_ints}

abbrev pub copy_text : List ℕ
copy_text = codes "INSERT INTO hier (a, b, typ) SELECT a, b, 0 FROM link WHERE kind = 1 ORDER BY rowid"

abbrev broader_filters : List Term
broader_filters = equal_terms (col 1 1) (lit (Int (pos 1))) ∷ []

abbrev copy_project : List Term
copy_project = lit Null ∷ col 1 2 ∷ col 1 3 ∷ lit (Int (pos 0)) ∷ []

abbrev copy_query : Query
copy_query = record (ordered_query 6 broader_filters copy_project) {
  collations = Binary ∷ Binary ∷ Binary ∷ Binary
      ∷ [];
}

-- An answer to the query that copies links is an answer to the same query without its collations.
in_order_too : (db : Trees) (params : Row) (out : List Row) → IsAnswer copy_query db params out
    → IsAnswer (ordered_query 6 broader_filters copy_project) db params out
in_order_too db params out a = search rules

copy_is : IsCommandText copy_text (Insert 7 (Asked (whole_program copy_query)))
unfolding understood everything
copy_is added = (refl, (refl, refl))

abbrev pub drop_text : List ℕ
drop_text = codes "DELETE FROM link WHERE kind = 1"

drop_is : IsCommandText drop_text (Delete 4 (whole_program (plain_query 6 broader_filters (col 1 0 ∷ []) [])))
unfolding understood everything
drop_is added = (refl, (refl, refl))

abbrev pub version_text : List ℕ
version_text = codes "UPDATE meta SET version = 2"

abbrev version_project : List Term
version_project = col 1 0 ∷ col 1 0 ∷ lit Null ∷ lit (Int (pos 2)) ∷ col 1 3 ∷ []

version_is : IsCommandText version_text (Update 0 (whole_program (plain_query 0 [] version_project [])))
unfolding understood everything
version_is added = (refl, (refl, refl))

-- Rows without numbers are inserted in order, each under the next rowid.
module _ {A : Type 0} (of : A → List Value) (table : Table)
    (casts : (y : A) (rows : List Row) → with_rowid Chosen rows (cast_row table (Null ∷ of y)) ≡ Int (next_rowid rows)
    ∷ of y) where
  pub hidden_push_all : (ys xs : List A) (tree : List Row) → AreHidden of xs tree
      → AreHidden of (xs ++ ys)
      (put_all tree (numbered Chosen tree (map (λ s. cast_row table s) (map (λ y. Null ∷ of y) ys))))
  hidden_push_all [] xs tree h = subst (λ l. AreHidden of l tree) (sym (append-nil xs)) h
  hidden_push_all (y ∷ ys) xs tree h =
      subst (λ l. AreHidden of l
      (put_all tree (numbered Chosen tree (map (λ s. cast_row table s) (map (λ y. Null ∷ of y) (y ∷ ys))))))
      (append_assoc xs (y ∷ []) ys)
      (hidden_push_all ys (xs ++ y ∷ []) (put_row (with_rowid Chosen tree (cast_row table (Null ∷ of y))) tree)
      (subst (λ row. AreHidden of (xs ++ y ∷ []) (put_row row tree)) (sym (casts y tree)) (hidden_push of y xs tree h)))

abbrev copied_cells : ℕ × Link → List Cell
copied_cells row = cells.Null ∷ number_cell row.1.a ∷ number_cell row.1.b ∷ number_cell 0 ∷ []

-- The rows that the query returns are the rows for table hier.
copied_rows : (given : List (ℕ × Link)) → map values (map copied_cells given)
    ≡ map (λ (y : HierRow). Null ∷ hier_values y) (map (λ (row : ℕ × Link). untyped_row row.1) given)
copied_rows [] = refl
copied_rows (row ∷ rows) = ap (λ l. (Null ∷ hier_values (untyped_row row.1)) ∷ l) (copied_rows rows)

cast_hier : (y : HierRow) (rows : List Row)
    → with_rowid Chosen rows (cast_row (record hier_table { tree = 11 }) (Null ∷ hier_values y)) ≡ Int (next_rowid rows)
    ∷ hier_values y
cast_hier y rows = rw (cast_null, cast_int (pos y.a), cast_int (pos y.b), cast_int (pos (hier_type_no y.typ))) refl

is_kind : (row : ℕ × Link) → list_all (holds ([] ∷ hidden_row link_values row ∷ [])) broader_filters ≡ is_broader row.1
is_kind row = and-true _ ∙ same_ints (link_kind_no row.1.kind) 1

-- Selecting the broader links of numbered rows is selecting them from the list of the links.
picked_links : (given : List (ℕ × Link)) (links : List Link) → map (λ (row : ℕ × Link). row.1) given ≡ links
    → map (λ (row : ℕ × Link). untyped_row row.1) (filter (λ (row : ℕ × Link). is_broader row.1) given)
    ≡ map untyped_row (filter is_broader links)
picked_links given links is = grind (arith, common_steps, map-map, filter-map)

-- The INSERT .. SELECT puts the links of kind broader into the empty table hier.
copies_links : (t : Tables) (old new : State) (count : ℕ) → KeepsAs 1 old.now (record t { hier = [] })
    → Executes copy_text [] old new (Ok count)
    → BecomesAs 1 old.now new.now (record t { hier = map untyped_row (filter is_broader t.link) })
copies_links t old new count kept h =
    let trees = old.now.trees in
    let held = kept.hold.link in
    let there = record hier_table { tree = 11 } in
    let rows = map untyped_row (filter is_broader t.link) in
    let added = kept.schema.added in
    let schema = schema_with added in
    let means = copy_is added in
    let w = runs_as copy_text [] old new schema kept.schema.is (Insert 7 (Asked (whole_program copy_query))) means.0
    means.1 count h in
    let it = insert_effect schema 7 there [] (statement_of copy_text (understood schema copy_text)) old new count
    kept.schema.is refl (writes_alone added kept.schema.apart 7 there refl) (Asked (whole_program copy_query)) refl w in
    let given : it.0 ≡ map (λ (y : HierRow). Null ∷ hier_values y) rows =
    answer_rows (λ (row : ℕ × Link). row.0) (hidden_row link_values) copied_cells 6 copy_project [] broader_filters
    (λ row. is_broader row.1) is_kind (λ row. refl) trees held.given it.0 held.held
    (in_order_too _ _ _ (it.1.answer Null))
    ∙ copied_rows (filter (λ (row : ℕ × Link). is_broader row.1) held.given)
    ∙ ap (map (λ (y : HierRow). Null ∷ hier_values y)) (picked_links held.given t.link held.same) in
    let all = hidden_push_all hier_values there cast_hier rows [] (trees 11) kept.hier in
    becomes_hier 1 old new (record t { hier = [] }) kept rows (record {
      schema = it.2 ∙ sym kept.schema.is;
      rows = subst (AreHidden hier_values rows)
          (sym (it.3.rows ∙ ap (λ l. edited trees (edit_of trees there [] Chosen 0 l)) given)) all;
      others = it.3.others;
      users = users_as kept.schema.is it.3.users;
    })

drops_copied : (t : Tables) (old new : State) (count : ℕ) → KeepsAs 1 old.now t
    → Executes drop_text [] old new (Ok count)
    → BecomesAs 1 old.now new.now (record t { link = filter (λ l. not (is_broader l)) t.link })
drops_copied t old new count kept h =
    let held = kept.hold.link in
    becomes_link 1 old new t kept (filter (λ l. not (is_broader l)) t.link)
    (rewrites_as 6 old new (hidden_drop link_values (λ l. not (is_broader l)) t.link (old.now.trees 6)
    (new.now.trees 6) held)
    (deletes (λ (row : ℕ × Link). row.0) (hidden_row link_values) (λ row. refl) 4 (record link_table { tree = 6 }) refl
    drop_text [] broader_filters (λ row. is_broader row.1) is_kind drop_is (λ row. refl) old new
    held.given count kept.schema held.held h))

sets_version : (t : Tables) (old new : State) (count : ℕ) → KeepsAs 1 old.now t
    → Executes version_text [] old new (Ok count) → KeepsIn old.now.schema new.now t
sets_version t old new count kept h =
    let w : Rewrites 0 (λ tree. tree ≡ stored_version 2 t.base ∷ []) old new = rewrites_as 0 old new
    (λ held. held.rows)
    (updates (λ (row : ℕ × List ℕ). 1) (λ (row : ℕ × List ℕ). stored_version row.0 row.1) (λ row. refl) 0 meta_table
    refl version_text [] [] (λ row. true) (λ row. refl) version_project version_is
    (λ row. (2, row.1)) (λ row. refl) (λ row. refl) (λ row. cast_meta row.1) old new ((1, t.base) ∷ []) count
    kept.schema (record { rises = (lit< tt, tt); rows = kept.hold.meta }) h) in
    becomes_current old.now new.now t (becomes_all 2 old.now new.now t w.schema kept.schema
    (elim [ table.Meta ↦ w.rows | p ↦ other_table_held 1 old new t kept w p (λ e. omega (arith, e)) ])
    kept.hold.numbered kept.hold.spelled w.users)

transforms_inside : (From To : Tables → Database → Type 0) (text : List ℕ) → ((t : Tables) (old new : State) (count : ℕ)
    → From t old.now → Executes text [] old new (Ok count) → To t new.now)
    → (old new : State) (r : Result ℕ Error) → ExecutesInside 0 text [] old new r
    → OnOk r (TransformsTables From To old new)
transforms_inside From To text makes old new r h = grind (arith, common_steps)

-- A step of the migration leaves the schema unchanged, so the schema still has no additions.
still_migrating : (old new : Database) (t : Tables) → old.schema ≡ store_schema → BecomesAs 1 old new t
    → IsMigrating new t
still_migrating old new t exact made = record { schema = made.schema ∙ exact; keeps = made.keeps }

pub does_copy : (old new : State) (r : Result ℕ Error) → ExecutesInside 0 copy_text [] old new r
    → OnOk r (TransformsTables HasEmptyHier HasCopiedLinks old new)
does_copy = transforms_inside HasEmptyHier HasCopiedLinks copy_text (λ t old new count from h.
    still_migrating old.now new.now _ from.schema (copies_links t old new count from.keeps h))

pub does_drop : (old new : State) (r : Result ℕ Error) → ExecutesInside 0 drop_text [] old new r
    → OnOk r (TransformsTables HasCopiedLinks HasMovedLinks old new)
does_drop = transforms_inside HasCopiedLinks HasMovedLinks drop_text (λ t old new count from h.
    still_migrating old.now new.now _ from.schema
    (drops_copied (tables_with_copied_links t) old new count from.keeps h))

pub does_version : (old new : State) (r : Result ℕ Error) → ExecutesInside 0 version_text [] old new r
    → OnOk r (TransformsTables HasMovedLinks IsMigratedStore old new)
does_version = transforms_inside HasMovedLinks IsMigratedStore version_text (λ t old new count from h.
    let made = sets_version (tables_after_migration t) old new count from.keeps h in
    record { schema_is = made.schema_is ∙ from.schema; keeps = made.keeps })
