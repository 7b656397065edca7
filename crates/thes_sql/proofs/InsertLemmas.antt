-- Proves that each INSERT makes its change: it appends one row to its table.
use Rattle.std.proofs.lemmas.Grind.{common_steps}
use Rattle.std.proofs.Common.{arith, ◌≡◌, inl, inr, ℕ, ℤ, ◌+ℤ◌, pos, List, [], ◌∷◌, ◌++◌, ◌<◌, ◌+◌, ◌/◌, length, map}
use Rattle.std.proofs.Common.{filter, fold, slice_get, Bool, false, Option, None, Some, Ok, Err, Result, OnOk, refl}
use Rattle.std.proofs.Common.{sym, ap, subst, ◌∙◌}
use Rattle.std.proofs.lemmas.Int.{ints}
use Rattle.std.specs.Prelude.{IsUtf8}
use Rattle.sqlite.specs.declared.types.Value.{Value}
use Rattle.sqlite.specs.declared.types.Value.TheVariants.{Null, Int}
use Rattle.sqlite.specs.Order.{Row}
use Rattle.sqlite.specs.Term.{Term}
use Rattle.sqlite.specs.Command.TheVariants.{Insert}
use Rattle.sqlite.specs.Source.TheVariants.{Values}
use Rattle.sqlite.specs.Edit.{edit_of, edited}
use Rattle.sqlite_rules.specs.Edit.{with_rowid, next_rowid, id_in}
use Rattle.sqlite_rules.specs.Cast.{cast_row}
use Rattle.sqlite_rules.specs.Lists.{Has}
use Rattle.sqlite.specs.Rowids.TheVariants.{Chosen}
use Rattle.sqlite.specs.Rows.{stamped}
use Rattle.sqlite.specs.Effect.{value_rows}
use Rattle.sqlite.specs.Cast.{cast}
use Rattle.sqlite.specs.Kind.TheVariants.{Integer}
use Rattle.sqlite.specs.Tree.{put_row}
use Rattle.sqlite_trees.specs.Tree.{rowid}
use Rattle.sqlite.specs.Table.{Table}
use Rattle.sqlite.specs.Listing.{understood}
use Rattle.sqlite.specs.State.{State, Executes, ExecutesInside}
use Rattle.sqlite.specs.declared.error.Error.{Error}
use Rattle.sqlite.proofs.Callers.{statement_of, runs_as}
use Rattle.sqlite_keyed.proofs.ListLemmas.{filter-map}
use Rattle.thes_base.specs.declared.data.Resource.{Resource}
use Rattle.thes_base.specs.declared.data.Link.{Link}
use Rattle.thes_base.specs.Labels.{Label, label_kind_no}
use Rattle.thes_base.specs.Links.{link_kind_no}
use Rattle.thes_tables.specs.declared.rows.HierRow.{HierRow}
use Rattle.thes_tables.specs.declared.rows.PostingRow.{PostingRow}
use Rattle.thes_tables.specs.declared.rows.MoveRow.{MoveRow}
use Rattle.thes_tables.specs.declared.change.Change.{Change}
use Rattle.thes_tables.specs.declared.change.Change.TheVariants as change
use Rattle.thes_tables.specs.Tables.{Tables, IsIn}
use Rattle.thes_tables.specs.Rows.{tables_after_change, ChangeFits}
use Rattle.thes_sql.specs.TransactionEffects.{AppliesChange}
use Rattle.thes_tables.specs.Cells.{optional_cell, hier_type_no, resource_cells, outside_cells, posting_cells}
use Rattle.thes_tables.specs.Cells.{move_cells}
use Rattle.thes_sql.specs.Schema.{resource_table, outside_table, label_table, link_table, hier_table, posting_table}
use Rattle.thes_sql.specs.Schema.{move_table}
use Rattle.thes_sql.specs.Additions.{IsStoreSchema, schema_with, store_tables}
use Rattle.thes_sql.specs.OldStore.{KeepsAs}
use Rattle.thes_sql.specs.StoredRows.{AreIncreasingAbove, AreKeyed, AreHidden, ArePostingsNumbered, hidden_row, values}
use Rattle.thes_sql.specs.StoredRows.{numbered_from, stored_resource, stored_outside, stored_posting, stored_move}
use Rattle.thes_sql.specs.StoredRows.{label_values, link_values, hier_values, value_of, IsSpelledOutside}
use Rattle.thes_sql.specs.StoredRows.{IsSpelledLabel, IsSpelledPosting}
use Rattle.thes_sql.proofs.StatementTextLemmas.{IsCommandText, statement_text, statement_is}
use Rattle.thes_sql.proofs.WriteEffectLemmas.{insert_effect, cast_int, cast_null}
use Rattle.thes_sql.proofs.KeyedRowLemmas.{keyed_push}
use Rattle.sqlite_trees.proofs.ListLemmas.{all-append}
use Rattle.thes_sql.proofs.StatementLemmas.{Rewrites, rewrites_as, users_as}
use Rattle.thes_sql.proofs.ForeignKeyLemmas.{get_first, writes_alone}
use Rattle.thes_sql.proofs.HeldTableLemmas.{BecomesAs, becomes_resource, becomes_outside, becomes_label, becomes_link}
use Rattle.thes_sql.proofs.HeldTableLemmas.{becomes_hier, becomes_posting, becomes_move, becomes_current, keeps_as_current}

-- The statement makes the change, inside a transaction.
abbrev pub Makes : Row → Change → Type 1
Makes params c = (old new : State) (r : Result ℕ Error) → ExecutesInside 0 (statement_text c) params old new r
    → OnOk r (AppliesChange c old new)

-- A statement makes the change if it does so in each store with tables that the change fits.
pub makes_change : (params : Row) (c : Change) → ((old new : State) (t : Tables) (count : ℕ) → KeepsAs 2 old.now t
    → ChangeFits c t → Executes (statement_text c) params old new (Ok count)
    → BecomesAs 2 old.now new.now (tables_after_change c t)) → Makes params c
makes_change params c makes old new (Err e) h = tt
makes_change params c makes old new (Ok count) h = record {
  rows = λ t kept fits.
      let made = makes old new t count (keeps_as_current old.now t kept) fits h.0 in
      (becomes_current old.now new.now _ made, made.users);
  inside = h.1.mode;
  is_open = h.1.is_open;
}

-- An INSERT of one row puts the row into the tree, under a new rowid if it has none.
pub inserts_row : (at : ℕ) (table : Table) (sql : List ℕ) (terms : List Term) (width : ℕ) (params source : Row)
    (new : List Row → Row)
    → slice_get store_tables at ≡ Some table → table.is_counted ≡ false
    → IsCommandText sql (Insert at (Values terms width))
    → value_rows (stamped table params) width (length terms / width) terms ≡ source ∷ []
    → ((rows : List Row) → with_rowid Chosen rows (cast_row table source) ≡ new rows)
    → (old next : State) (count : ℕ) → IsStoreSchema old.now.schema → Executes sql params old next (Ok count)
    → Rewrites table.tree (λ tree. tree ≡ put_row (new (old.now.trees table.tree)) (old.now.trees table.tree)) old next
inserts_row at table sql terms width params source new is_at uncounted is given numbers old next count has h =
    let db = old.now.trees in
    let schema = schema_with has.added in
    let means = is has.added in
    let w = runs_as sql params old next schema has.is (Insert at (Values terms width)) means.0 means.1 count h in
    let it = insert_effect schema at table params (statement_of sql (understood schema sql)) old next count has.is
    (get_first store_tables has.added.tables at table is_at) (writes_alone has.added has.apart at table is_at)
    (Values terms width) uncounted w in
    record {
      schema = it.2 ∙ sym has.is;
      rows = it.3.rows ∙ ap (λ all. edited db (edit_of db table [] Chosen 0 all)) (it.1.1 ∙ given)
          ∙ ap (λ row. put_row row (db table.tree)) (numbers (db table.tree));
      others = it.3.others;
      users = users_as has.is it.3.users;
    }

-- An INSERT of a row with a greater number than all others appends the row.
pub adds_keyed : {X : Type 0} (num : X → ℕ) (stored : X → Row) → ((x : X) → rowid (stored x) ≡ Int (pos (num x)))
    → (at : ℕ) (table : Table) (sql : List ℕ) (terms : List Term) (width : ℕ) (params : Row) (x : X)
    → slice_get store_tables at ≡ Some table → table.is_counted ≡ false
    → IsCommandText sql (Insert at (Values terms width))
    → value_rows (stamped table params) width (length terms / width) terms ≡ stored x ∷ []
    → ((rows : List Row) → with_rowid Chosen rows (cast_row table (stored x)) ≡ stored x)
    → (old new : State) (xs : List X) (count : ℕ) → IsStoreSchema old.now.schema
    → AreKeyed stored num xs (old.now.trees table.tree) → 0 < num x → ((y : X) → Has xs y → num y < num x)
    → Executes sql params old new (Ok count) → Rewrites table.tree (AreKeyed stored num (xs ++ x ∷ [])) old new
adds_keyed num stored is_num at table sql terms width params x is_at uncounted is given casts old new xs count
    has held least below h =
    rewrites_as table.tree old new (λ e. subst (AreKeyed stored num (xs ++ x ∷ [])) (sym e)
    (keyed_push num stored is_num x xs (old.now.trees table.tree) held least below))
    (inserts_row at table sql terms width params (stored x) (λ rows. stored x) is_at uncounted is given casts
    old new
    count has h)

abbrev next_id : {A : Type 0} → ℕ → List (ℕ × A) → ℕ
next_id n [] = n
next_id n (l ∷ ls) = next_id (l.0 + 1) ls

one_more : (n : ℕ) → pos n +ℤ pos 1 ≡ pos (n + 1)
one_more n = grind (arith, ints)

module _ {A : Type 0} (of : A → List Value) where
  next_is : (n : ℕ) (ls : List (ℕ × A)) → fold (λ _ r. id_in (rowid r) +ℤ pos 1) (pos n)
      (map (hidden_row of) ls) ≡ pos (next_id n ls)
  next_is n [] = refl
  next_is n (l ∷ ls) = subst (λ z. fold (λ _ r. id_in (rowid r) +ℤ pos 1) z (map (hidden_row of) ls) ≡ pos
      (next_id (l.0 + 1) ls)) (sym (one_more l.0)) (next_is (l.0 + 1) ls)

  above_next : (a n : ℕ) (ls : List (ℕ × A)) → AreIncreasingAbove (λ (row : ℕ × A). row.0) a ls → a < n
      → a < next_id n ls
  above_next a n [] up lt = lt
  above_next a n (l ∷ ls) up lt = grind (arith, common_steps, above_next l.0 (l.0 + 1) ls up.1)

  below_next : (a n : ℕ) (ls : List (ℕ × A)) → AreIncreasingAbove (λ (row : ℕ × A). row.0) a ls → (y : ℕ × A) → Has ls y
      → y.0 < next_id n ls
  below_next a n [] up y h = absurd h
  below_next a n (l ∷ ls) up y h = grind (arith, common_steps, above_next, below_next l.0 (l.0 + 1) ls up.1 y)

  shown_push : (ls : List (ℕ × A)) (row : ℕ × A) → map (λ (row : ℕ × A). row.1) (ls ++ row ∷ []) ≡ map (λ (row : ℕ
      × A). row.1) ls ++ row.1 ∷ []
  shown_push [] row = refl
  shown_push (l ∷ ls) row = ap (λ rest. l.1 ∷ rest) (shown_push ls row)

  -- A row put under the next rowid is the last row of the table.
  pub hidden_push : (x : A) (xs : List A) (tree : List Row) → AreHidden of xs tree
      → AreHidden of (xs ++ x ∷ []) (put_row (Int (next_rowid tree) ∷ of x) tree)
  hidden_push x xs tree h =
      let n = next_id 1 h.given in
      let is : next_rowid tree ≡ pos n = ap next_rowid h.held.rows ∙ next_is 1 h.given in
      let held = keyed_push (λ (row : ℕ × A). row.0) (hidden_row of) (λ row. refl) (n, x) h.given tree h.held
      (above_next 0 1 h.given h.held.rises (omega arith)) (below_next 0 1 h.given h.held.rises) in
      record {
        given = h.given ++ (n, x) ∷ [];
        same = shown_push h.given (n, x) ∙ ap (λ l. l ++ x ∷ []) h.same;
        held = subst (λ (z : ℤ). AreKeyed (hidden_row of) (λ (row : ℕ × A). row.0) (h.given ++ (n, x) ∷ [])
            (put_row (Int z ∷ of x) tree)) (sym is) held;
      }

  -- An INSERT of a row without a number appends the row under the next rowid.
  pub adds_hidden : (at : ℕ) (table : Table) (sql : List ℕ) (terms : List Term) (width : ℕ) (x : A)
      → slice_get store_tables at ≡ Some table → table.is_counted ≡ false
      → IsCommandText sql (Insert at (Values terms width))
      → value_rows (stamped table (of x)) width (length terms / width) terms ≡ (Null ∷ of x) ∷ []
      → ((rows : List Row) → with_rowid Chosen rows (cast_row table (Null ∷ of x)) ≡ Int (next_rowid rows) ∷ of x)
      → (old new : State) (xs : List A) (count : ℕ) → IsStoreSchema old.now.schema
      → AreHidden of xs (old.now.trees table.tree) → Executes sql (of x) old new (Ok count)
      → Rewrites table.tree (AreHidden of (xs ++ x ∷ [])) old new
  adds_hidden at table sql terms width x is_at uncounted is given casts old new xs count has held h =
      rewrites_as table.tree old new (λ e. subst (AreHidden of (xs ++ x ∷ [])) (sym e)
      (hidden_push x xs (old.now.trees table.tree) held))
      (inserts_row at table sql terms width (of x) (Null ∷ of x) (λ rows. Int (next_rowid rows) ∷ of x) is_at
      uncounted is given casts old new count has h)

  -- The rows that pass a test keep their rowids when the others are deleted.
  pub hidden_drop : (q : A → Bool) (xs : List A) (old tree : List Row) (h : AreHidden of xs old)
      → AreKeyed (hidden_row of) (λ (row : ℕ × A). row.0) (filter (λ (row : ℕ × A). q row.1) h.given) tree
      → AreHidden of (filter q xs) tree
  hidden_drop q xs old tree h held = record {
    given = filter (λ (row : ℕ × A). q row.1) h.given;
    same = sym (filter-map q (λ (row : ℕ × A). row.1) h.given) ∙ ap (filter q) h.same;
    held = held;
  }

pub in_has : {A : Type 0} (xs : List A) (x : A) → Has xs x → IsIn x xs
in_has [] x h = absurd h
in_has (y ∷ ys) x (inl e) = inl e
in_has (y ∷ ys) x (inr h) = inr (in_has ys x h)

numbered_push : {A : Type 0} (n : ℕ) (xs : List A) (x : A) → numbered_from n (xs ++ x ∷ []) ≡ numbered_from n xs ++
    (n + length xs, x) ∷ []
numbered_push n [] x = ap (λ m. (m, x) ∷ []) (let e : n ≡ n + 0 = omega arith in e)
numbered_push n (y ∷ ys) x = grind (arith, common_steps, numbered_push (n + 1) ys x)

numbered_below : {A : Type 0} (n : ℕ) (xs : List A) (y : ℕ × A) → Has (numbered_from n xs) y → y.0 < n + length xs
numbered_below n [] y h = absurd h
numbered_below {A} n (x ∷ xs) y (inl e) = let k = ap (λ (z : ℕ × A). z.0) e in omega (arith, k)
numbered_below n (x ∷ xs) y (inr h) = let k = numbered_below (n + 1) xs y h in omega (arith, k)

postings_push : (first : ℕ) (rows : List PostingRow) (x : PostingRow) → ArePostingsNumbered first rows
    → x.number ≡ first + length rows → ArePostingsNumbered first (rows ++ x ∷ [])
postings_push first [] x num e = ((let q = e in omega (arith, q)), tt)
postings_push first (r ∷ rows) x num e = (num.0, postings_push (first + 1) rows x num.1 (omega (arith, e)))

postings_below : (first : ℕ) (rows : List PostingRow) (y : PostingRow) → ArePostingsNumbered first rows → Has rows y
    → y.number < first + length rows
postings_below first [] y num h = absurd h
postings_below first (r ∷ rows) y num h = grind (arith, common_steps, postings_below (first + 1) rows y num.1)

cast_held : (o : Option ℕ) → cast Integer (value_of (optional_cell o)) ≡ value_of (optional_cell o)
cast_held None = cast_null
cast_held (Some n) = cast_int (pos n)

-- The column types leave a row of table resource unchanged.
pub cast_resource : (row : ℕ × Resource) → cast_row (record resource_table { tree = 1 })
    (stored_resource row) ≡ stored_resource row
cast_resource row = simp (cast_null, cast_int, cast_held)

-- The INSERT of a resource makes the change AddResource.
pub makes_resource : (n : ℕ) (r : Resource) → Makes (values (resource_cells n r)) (change.AddResource n r)
makes_resource n r = makes_change _ (change.AddResource n r) (λ old new t count kept next h.
    let is : numbered_from 1 t.resource ++ (n, r) ∷ [] ≡ numbered_from 1 (t.resource ++ r ∷ []) =
    ap (λ m. numbered_from 1 t.resource ++ (m, r) ∷ []) (let e : n ≡ 1 + length t.resource = omega (arith, next) in e)
    ∙ sym (numbered_push 1 t.resource r) in
    becomes_resource 2 old new t kept (t.resource ++ r ∷ []) (rewrites_as 1 old new
    (subst (λ l. AreKeyed stored_resource (λ (row : ℕ × Resource). row.0) l (new.now.trees 1)) is)
    (adds_keyed (λ (row : ℕ × Resource). row.0) stored_resource (λ row. refl) 1 (record resource_table { tree = 1 })
    _ _ _ (values (resource_cells n r)) (n, r) refl refl (statement_is (change.AddResource n r))
    refl (λ rows. ap (with_rowid Chosen rows) (cast_resource (n, r))) old new (numbered_from 1 t.resource) count
    kept.schema kept.hold.resource (omega (arith, next))
    (λ y k. let b = numbered_below 1 t.resource y k in omega (arith, b, next)) h)))

cast_outside : (row : ℕ × List ℕ) → cast_row (record outside_table { tree = 2 }) (stored_outside row) ≡ stored_outside
    row
cast_outside row = rw (cast_null, cast_int (pos row.0)) refl

-- The INSERT of an outside concept makes the change AddOutside.
pub makes_outside : (n : ℕ) (iri : List ℕ) → 0 < n → IsUtf8 iri → Makes (values (outside_cells (n, iri)))
    (change.AddOutside n iri)
makes_outside n iri least spelled = makes_change _ (change.AddOutside n iri) (λ old new t count kept below h.
    becomes_outside 2 old new t kept (t.outside ++ (n, iri) ∷ [])
    (adds_keyed (λ (row : ℕ × List ℕ). row.0) stored_outside (λ row. refl) 2 (record outside_table { tree = 2 })
    _ _ _ (values (outside_cells (n, iri))) (n, iri) refl refl
    (statement_is (change.AddOutside n iri)) refl (λ rows. ap (with_rowid Chosen rows) (cast_outside (n, iri))) old new
    t.outside count kept.schema kept.hold.outside least (λ y k. below y (in_has t.outside y k)) h)
    (all-append IsSpelledOutside t.outside ((n, iri) ∷ []) kept.hold.spelled.1.0 (spelled, tt)))

pub cast_posting : (p : PostingRow) → cast_row (record posting_table { tree = 8 }) (stored_posting p) ≡ stored_posting p
cast_posting p = simp (cast_null, cast_int)

-- The INSERT of a posting makes the change AddPosting.
pub makes_posting : (p : PostingRow) → IsSpelledPosting p → Makes (values (posting_cells p)) (change.AddPosting p)
makes_posting p spelled = makes_change _ (change.AddPosting p) (λ old new t count kept fits h.
    let next = fits.0 in
    becomes_posting 2 old new t kept (t.posting ++ p ∷ [])
    (adds_keyed (λ (row : PostingRow). row.number) stored_posting (λ row. refl) 5 (record posting_table { tree = 8 })
    _ _ _ (values (posting_cells p)) p refl refl (statement_is (change.AddPosting p)) refl
    (λ rows. ap (with_rowid Chosen rows) (cast_posting p)) old new t.posting count kept.schema kept.hold.posting
    (omega (arith, next))
    (λ y k. let b = postings_below 1 t.posting y kept.hold.numbered k in omega (arith, b, next)) h)
    (postings_push 1 t.posting p kept.hold.numbered (omega (arith, next)))
    (all-append IsSpelledPosting t.posting (p ∷ []) kept.hold.spelled.1.1.1 (spelled, tt)))

cast_move : (m : MoveRow) → cast_row (record move_table { tree = 10 }) (stored_move m) ≡ stored_move m
cast_move m = simp (cast_null, cast_int)

-- The INSERT of a move makes the change AddMove.
pub makes_move : (m : MoveRow) → 0 < m.number → Makes (values (move_cells m)) (change.AddMove m)
makes_move m least = makes_change _ (change.AddMove m) (λ old new t count kept below h.
    becomes_move 2 old new t kept (t.move ++ m ∷ [])
    (adds_keyed (λ (row : MoveRow). row.number) stored_move (λ row. refl) 6 (record move_table { tree = 10 })
    _ _ _ (values (move_cells m)) m refl refl (statement_is (change.AddMove m)) refl
    (λ rows. ap (with_rowid Chosen rows) (cast_move m)) old new t.move count kept.schema kept.hold.move least
    (λ y k. below y (in_has t.move y k)) h))

-- The INSERT of a label makes the change AddLabel.
pub makes_label : (l : Label) → IsSpelledLabel l → Makes (label_values l) (change.AddLabel l)
makes_label l spelled = makes_change _ (change.AddLabel l) (λ old new t count kept fits h.
    becomes_label 2 old new t kept (t.label ++ l ∷ [])
    (adds_hidden label_values 3 (record label_table { tree = 4 }) _ _ _ l refl refl
    (statement_is (change.AddLabel l)) refl
    (λ rows. rw (cast_null, cast_int (pos l.owner), cast_int (pos (label_kind_no l.kind))) refl) old new t.label
    count kept.schema kept.hold.label h)
    (all-append IsSpelledLabel t.label (l ∷ []) kept.hold.spelled.1.1.0 (spelled, tt)))

-- The INSERT of a link makes the change AddLink.
pub makes_link : (l : Link) → Makes (link_values l) (change.AddLink l)
makes_link l = makes_change _ (change.AddLink l) (λ old new t count kept fits h.
    becomes_link 2 old new t kept (t.link ++ l ∷ [])
    (adds_hidden link_values 4 (record link_table { tree = 6 }) _ _ _ l refl refl
    (statement_is (change.AddLink l)) refl
    (λ rows. rw (cast_null, cast_int (pos (link_kind_no l.kind)), cast_int (pos l.a), cast_int (pos l.b)) refl) old
    new t.link count kept.schema kept.hold.link h))

-- The INSERT of a hierarchical link makes the change AddHier.
pub makes_hier : (row : HierRow) → Makes (hier_values row) (change.AddHier row)
makes_hier row = makes_change _ (change.AddHier row) (λ old new t count kept fits h.
    becomes_hier 2 old new t kept (t.hier ++ row ∷ [])
    (adds_hidden hier_values 7 (record hier_table { tree = 11 }) _ _ _ row refl refl
    (statement_is (change.AddHier row)) refl
    (λ rows. rw (cast_null, cast_int (pos row.a), cast_int (pos row.b), cast_int (pos (hier_type_no row.typ))) refl)
    old new t.hier count kept.schema kept.hier h))
