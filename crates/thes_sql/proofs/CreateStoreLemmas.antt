-- Proves that the tables of a new store are empty, except for the row of table meta.
use Rattle.std.proofs.Common.{arith, ◌≡◌, ◌∙◌, ℕ, pos, List, [], Ok, Err, Result, OnOk, refl, sym, ap, subst}
use Rattle.std.specs.Prelude.{IsUtf8}
use Rattle.sqlite.specs.declared.types.Value.{Value}
use Rattle.sqlite.specs.Order.{Row}
use Rattle.sqlite.specs.Tree.{put_row}
use Rattle.sqlite_rules.specs.Edit.{with_rowid}
use Rattle.sqlite_rules.specs.Cast.{cast_row}
use Rattle.sqlite.specs.Rowids.TheVariants.{Chosen}
use Rattle.sqlite.specs.declared.error.Error.{Error}
use Rattle.sqlite.specs.State.{State, Executes, ExecutesInside}
use Rattle.thes_tables.specs.Tables.{empty_tables}
use Rattle.thes_tables.specs.Cells.{meta_cells}
use Rattle.thes_sql.specs.Additions.{IsStoreSchema}
use Rattle.thes_sql.specs.Schema.{meta_table, store_schema}
use Rattle.thes_sql.specs.StoredRows.{KeepsIn, AreKeyed, AreHidden, stored_meta, values}
use Rattle.thes_sql.specs.TransactionEffects.{IsEmpty, Transforms}
use Rattle.thes_sql.proofs.DeclarationLemmas.{own_schema}
use Rattle.thes_sql.proofs.StatementTextLemmas as text
use Rattle.thes_sql.proofs.WriteEffectLemmas.{cast_int, cast_null}
use Rattle.thes_sql.proofs.InsertLemmas.{inserts_row}

pub cast_meta : (base : List ℕ) → cast_row meta_table (stored_meta base) ≡ stored_meta base
cast_meta base = rw (cast_null, cast_int (pos 1), cast_int (pos 2)) refl

no_keyed : {A : Type 0} (stored : A → Row) (num : A → ℕ) (tree : List Row) → tree ≡ [] → AreKeyed stored num [] tree
no_keyed stored num tree none = record { rises = tt; rows = none }

no_hidden : {A : Type 0} (of : A → List Value) (tree : List Row) → tree ≡ [] → AreHidden of [] tree
no_hidden of tree none = record { given = []; same = refl; held = record { rises = tt; rows = none } }

-- The INSERT into table meta turns empty tables into those of a new store.
pub adds_meta : (base : List ℕ) → IsUtf8 base → (old new : State) (count : ℕ) → IsEmpty store_schema old.now
    → Executes text.add_meta_text (values (meta_cells base)) old new (Ok count)
    → KeepsIn store_schema new.now (empty_tables base)
adds_meta base spelled old new count empty h =
    let w = inserts_row 0 meta_table text.add_meta_text text.add_meta_terms 4 (values (meta_cells base))
    (stored_meta base) (λ rows. stored_meta base) refl refl text.add_meta_is refl
    (λ rows. ap (with_rowid Chosen rows) (cast_meta base)) old new count
    (subst IsStoreSchema (sym empty.0) own_schema) h in
    let e = empty.1 in
    let same = w.schema ∙ empty.0 in
    record {
      schema_is = same;
      keeps = record {
        schema = subst IsStoreSchema (sym same) own_schema;
        hold = record {
          meta = w.rows ∙ ap (put_row (stored_meta base)) e.0;
          resource = no_keyed _ _ _ (w.others.1.0 (λ q. omega (arith, q)) ∙ e.1.0);
          outside = no_keyed _ _ _ (w.others.1.1.0 (λ q. omega (arith, q)) ∙ e.1.1.0);
          label = no_hidden _ _ (w.others.1.1.1.0 (λ q. omega (arith, q)) ∙ e.1.1.1.0);
          link = no_hidden _ _ (w.others.1.1.1.1.0 (λ q. omega (arith, q)) ∙ e.1.1.1.1.0);
          hier = no_hidden _ _ (w.others.1.1.1.1.1.1.1.0 (λ q. omega (arith, q)) ∙ e.1.1.1.1.1.1.1.0);
          posting = no_keyed _ _ _ (w.others.1.1.1.1.1.0 (λ q. omega (arith, q)) ∙ e.1.1.1.1.1.0);
          numbered = tt;
          spelled = (spelled, (tt, (tt, tt)));
          move = no_keyed _ _ _ (w.others.1.1.1.1.1.1.0 (λ q. omega (arith, q)) ∙ e.1.1.1.1.1.1.0);
        };
      };
    }

pub does_meta : (base : List ℕ) → IsUtf8 base → (old new : State) (r : Result ℕ Error)
    → ExecutesInside 0 text.add_meta_text (values (meta_cells base)) old new r
    → OnOk r (Transforms (IsEmpty store_schema) (λ db. KeepsIn store_schema db (empty_tables base)) old new)
does_meta base spelled old new (Err e) h = tt
does_meta base spelled old new (Ok count) h = record {
  made = λ empty. adds_meta base spelled old new count empty h.0;
  inside = h.1.mode;
}
