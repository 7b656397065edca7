-- Proves that each call of the storage keeps its invariant, and that a commit applies its changes
-- to the rows.
use Rattle.std.proofs.lemmas.Grind.{common_steps}
use Rattle.std.proofs.Common.{arith, inl, inr, pos, ◌≡◌, ℕ, ◌+◌, List, [], ◌∷◌, map, Bool, Option, None, Some, Result}
use Rattle.std.proofs.Common.{false, Ok, Err, IfOk, refl, sym, ap, subst, ◌∙◌, IsTrue}
use Rattle.std.specs.Prelude.{IsUtf8}
use Rattle.std.specs.List.{AllByRecursion}
use Rattle.sqlite.specs.Order.{Row, column}
use Rattle.sqlite.specs.declared.types.Value.{Value}
use Rattle.sqlite.specs.declared.types.Value.TheVariants.{Int}
use Rattle.sqlite.specs.Tree.{Trees}
use Rattle.sqlite.specs.Effect.{Database}
use Rattle.sqlite.specs.State.{State, HasCleanDisk, Survives}
use Rattle.sqlite.specs.Held.{Held, state}
use Rattle.sqlite.specs.declared.error.Error.{Error}
use Rattle.sqlite_trees.specs.Tree.{IsTable, rowid}
use Rattle.sqlite_trees.specs.declared.store.Store.{Ghosts}
use Rattle.thes_base.specs.declared.fault.Table.{Table}
use Rattle.thes_base.specs.declared.fault.Table.TheVariants as table
use Rattle.thes_base.specs.declared.data.Resource.{Resource}
use Rattle.thes_base.specs.Labels.{Label, label_kind_no}
use Rattle.thes_tables.specs.declared.cells.Cell.{Cell}
use Rattle.thes_tables.specs.declared.change.Change.{Change}
use Rattle.thes_tables.specs.declared.rows.PostingRow.{PostingRow}
use Rattle.thes_tables.specs.Tables.{Tables}
use Rattle.thes_tables.specs.Rows.{DeltaFits, tables_after_delta}
use Rattle.thes_tables.specs.Cells.{cells_of_tables, number_cell, flag_cell, resource_kind_no, optional_cell}
use Rattle.thes_tables.specs.Cells.{resource_rows, meta_cells, outside_cells, label_cells, link_cells, hier_cells}
use Rattle.thes_tables.specs.Cells.{posting_cells, move_cells}
use Rattle.thes_tables.proofs.CellLemmas.{listed_one}
use Rattle.thes_sql.specs.Additions.{LeavesUserTables}
use Rattle.thes_sql.specs.StoredRows.{Keeps, KeepsIn, Hold, AreKeyed, AreHidden, hidden_row, value_of, numbered_from}
use Rattle.thes_sql.specs.StoredRows.{stored_resource}
use Rattle.thes_sql.specs.StoredRows.{stored_outside, stored_posting, stored_move, label_values, link_values}
use Rattle.thes_sql.specs.StoredRows.{hier_values, stored_meta, IsSpelledOutside, IsSpelledLabel, IsSpelledPosting}
use Rattle.thes_sql.specs.TransactionEffects.{IsOwnTransaction}
use Rattle.thes_sql.specs.Reads.{places_of, tree_of, IsReadable, LeavesTables}
use Rattle.thes_sql.proofs.KeyedRowLemmas.{is_table}
use Rattle.thes_sqlite.specs.KeeperView.{raw_in, raw_of_keeper, KeeperView, IsKeeperUp, IsUp, HasCommittedTables}
use Rattle.thes_sqlite.specs.KeeperView.{IsStore, IsKeeperState, LeavesEither, LeavesAfter}
use Rattle.thes_store.specs.Storage.{RawAfterChanges}
use Rattle.thes_sqlite.specs.Commits.{AppliesAll, DatabaseFrame, MakesAll}
use Rattle.thes_sqlite.specs.ValueCells.{cell_of}
use Rattle.thes_sqlite.proofs.ValueLemmas.{text_cell}

abbrev tree_columns : List ℕ → List Row → List (List Cell)
tree_columns places rows = map (map cell_of) (map (λ (row : Row). map (column row) places) rows)

optional_back : (o : Option ℕ) → cell_of (value_of (optional_cell o)) ≡ optional_cell o
optional_back None = refl
optional_back (Some n) = refl

resources_back : (n : ℕ) (rs : List Resource) → tree_columns (places_of table.Resource)
    (map stored_resource (numbered_from n rs)) ≡ resource_rows n rs
resources_back n [] = refl
resources_back n (r ∷ rs) = λ i. (number_cell n ∷ number_cell (resource_kind_no r.kind) ∷ optional_back r.scheme i
    ∷ flag_cell r.live ∷ optional_back r.replaced i ∷ []) ∷ resources_back (n + 1) rs i

all_trivial : {A : Type 0} (xs : List A) → AllByRecursion (λ x. Unit {0}) xs
all_trivial [] = tt
all_trivial (x ∷ xs) = (tt, all_trivial xs)

map_back : {A : Type 0} (places : List ℕ) (stored : A → Row) (cells : A → List Cell) (P : A → Type 0)
    → ((x : A) → P x → map cell_of (map (column (stored x)) places) ≡ cells x)
    → (xs : List A) → AllByRecursion P xs → tree_columns places (map stored xs) ≡ map cells xs
map_back places stored cells P is [] all = refl
map_back places stored cells P is (x ∷ xs) all = λ i. is x all.0 i ∷ map_back places stored cells P is xs all.1 i

hidden_back : {A : Type 0} (places : List ℕ) (of : A → List Value) (cells : A → List Cell) (P : A → Type 0)
    → ((x : ℕ × A) → P x.1 → map cell_of (map (column (hidden_row of x)) places) ≡ cells x.1)
    → (xs : List (ℕ × A)) → AllByRecursion P (map (λ (row : ℕ × A). row.1) xs)
    → tree_columns places (map (hidden_row of) xs) ≡ map cells (map (λ (row : ℕ × A). row.1) xs)
hidden_back places of cells P is [] all = refl
hidden_back places of cells P is (x ∷ xs) all = λ i. is x all.0 i ∷ hidden_back places of cells P is xs all.1 i

hidden_tree_back : {A : Type 0} (places : List ℕ) (of : A → List Value) (cells : A → List Cell) (P : A → Type 0)
    → ((x : ℕ × A) → P x.1 → map cell_of (map (column (hidden_row of x)) places) ≡ cells x.1)
    → (xs : List A) (tree : List Row) → AreHidden of xs tree → AllByRecursion P xs → tree_columns places tree
    ≡ map cells xs
hidden_tree_back places of cells P is xs tree h all = ap (tree_columns places) h.held.rows
    ∙ hidden_back places of cells P is h.given (subst (AllByRecursion P) (sym h.same) all) ∙ ap (map cells) h.same

-- A text in UTF-8 is read back as the cell that was stored.
meta_back : (base : List ℕ) → IsUtf8 base → tree_columns (places_of table.Meta) (stored_meta base ∷ [])
    ≡ meta_cells base ∷ []
meta_back base is = λ i. (number_cell 1 ∷ number_cell 2 ∷ text_cell base is i ∷ []) ∷ []

outside_back : (x : ℕ × List ℕ) → IsSpelledOutside x
    → map cell_of (map (column (stored_outside x)) (places_of table.Outside)) ≡ outside_cells x
outside_back x is = λ i. number_cell x.0 ∷ text_cell x.1 is i ∷ []

label_back : (x : ℕ × Label) → IsSpelledLabel x.1
    → map cell_of (map (column (hidden_row label_values x)) (places_of table.Label)) ≡ label_cells x.1
label_back x is = λ i. number_cell x.1.owner ∷ number_cell (label_kind_no x.1.kind) ∷ text_cell x.1.tag is.0 i
    ∷ text_cell x.1.text is.1 i ∷ []

posting_back : (x : PostingRow) → IsSpelledPosting x
    → map cell_of (map (column (stored_posting x)) (places_of table.Posting)) ≡ posting_cells x
posting_back x is = λ i. number_cell x.number ∷ text_cell x.key is.0 i ∷ text_cell x.rec is.1 i ∷ number_cell x.first
    ∷ number_cell x.place ∷ flag_cell x.withdrawn ∷ []

-- The cells read from trees that hold tables are the cells of the tables.
pub raw_of : (db : Trees) (t : Tables) → Hold db t → raw_in db ≡ cells_of_tables t
raw_of db t h =
    let spelled = h.spelled in
    let meta = ap (tree_columns (places_of table.Meta)) h.meta ∙ meta_back t.base spelled.0 in
    let resource = ap (tree_columns (places_of table.Resource)) h.resource.rows ∙ resources_back 1 t.resource in
    let outside = ap (tree_columns (places_of table.Outside)) h.outside.rows
    ∙ map_back (places_of table.Outside) stored_outside outside_cells IsSpelledOutside outside_back t.outside
    spelled.1.0 in
    let label = hidden_tree_back (places_of table.Label) label_values label_cells IsSpelledLabel label_back t.label
    (db 4) h.label spelled.1.1.0 in
    let link = hidden_tree_back (places_of table.Link) link_values link_cells (λ x. Unit {0}) (λ x _. refl) t.link
    (db 6) h.link (all_trivial t.link) in
    let hier = hidden_tree_back (places_of table.Hier) hier_values hier_cells (λ x. Unit {0}) (λ x _. refl) t.hier
    (db 11) h.hier (all_trivial t.hier) in
    let posting = ap (tree_columns (places_of table.Posting)) h.posting.rows
    ∙ map_back (places_of table.Posting) stored_posting posting_cells IsSpelledPosting posting_back t.posting
    spelled.1.1.1 in
    let move = ap (tree_columns (places_of table.Move)) h.move.rows
    ∙ map_back (places_of table.Move) stored_move move_cells (λ x. Unit {0}) (λ x _. refl) t.move
    (all_trivial t.move) in
    λ i. record {
      meta = Some (meta i);
      resource = Some (resource i);
      outside = Some (outside i);
      label = Some (label i);
      link = Some (link i);
      hier = Some (hier i);
      posting = Some (posting i);
      move = Some (move i);
    }

keyed_in_order : {A : Type 0} (stored : A → Row) (num : A → ℕ) → ((x : A) → rowid (stored x) ≡ Int (pos (num x)))
    → (xs : List A) (tree : List Row) → AreKeyed stored num xs tree → IsTable tree
keyed_in_order stored num is xs tree h = subst IsTable (sym h.rows) (is_table num stored is 0 xs h.rises)

hidden_in_order : {A : Type 0} (of : A → List Value) (xs : List A) (tree : List Row) → AreHidden of xs tree
    → IsTable tree
hidden_in_order {A} of xs tree h =
    keyed_in_order (hidden_row of) (λ (row : ℕ × A). row.0) (λ row. refl) h.given tree h.held

-- A database that is a store is readable.
pub readable_of : (db : Database) (t : Tables) → Keeps db t → IsReadable db
readable_of db t k = record { schema = k.schema; ordered = in_order }
  where
    in_order : (p : Table) → IsTable (db.trees (tree_of p))
    in_order table.Meta = subst IsTable (sym k.hold.meta) (tt, tt)
    in_order table.Resource = keyed_in_order stored_resource _ (λ row. refl) _ _ k.hold.resource
    in_order table.Outside = keyed_in_order stored_outside _ (λ row. refl) _ _ k.hold.outside
    in_order table.Label = hidden_in_order label_values t.label _ k.hold.label
    in_order table.Link = hidden_in_order link_values t.link _ k.hold.link
    in_order table.Hier = hidden_in_order hier_values t.hier _ k.hold.hier
    in_order table.Posting = keyed_in_order stored_posting _ (λ row. refl) _ _ k.hold.posting
    in_order table.Move = keyed_in_order stored_move _ (λ row. refl) _ _ k.hold.move

pub before_read : {S : Type 0} (g : Ghosts S) (old new : Held S) → LeavesTables g old new → IsUp (state g new)
    → IsUp (state g old)
before_read g old new leaves up = (omega (arith, leaves.clean, up.0), leaves.was up.0 up.1)

-- Two calls of which each leaves the tables unchanged leave them unchanged together.
pub tables_then : {S : Type 0} (g : Ghosts S) (old mid new : Held S) → LeavesTables g old mid → LeavesTables g mid new
    → LeavesTables g old new
tables_then g old mid new first second = grind (arith, common_steps)

-- If the rows of an open store are the cells of tables, the store has these tables.
holds_shown : (s : State) → HasCommittedTables s → (t : Tables) → raw_in s.now.trees ≡ cells_of_tables t → Keeps s.now t
holds_shown s served t is =
    let k = served.keeps in
    subst (Keeps s.now) (listed_one k.0 t (sym (raw_of s.now.trees k.0 k.1.hold) ∙ is)) k.1

-- Storage whose rows are the cells of tables keeps these tables, and has committed them.
pub kept_of_raw : {S : Type 0} (g : Ghosts S) (view old : KeeperView S) (new : Held S) → view ≡ old
    → IsKeeperState (state g view.first) (state g view.conn) → LeavesTables g view.conn new
    → IsStore (state g view.first) → IsUp (state g new) → (t : Tables) → raw_of_keeper g old ≡ cells_of_tables t
    → Keeps (state g view.conn).now t × ((state g view.conn).now ≡ (state g view.conn).committed)
kept_of_raw g view old new same kept leaves known up t is =
    let s = kept.served known (before_read g view.conn new leaves up) in
    (holds_shown (state g view.conn) s t (ap (λ k. raw_of_keeper g k) same ∙ is), s.settled)

-- A call that leaves the tables unchanged keeps the invariant.
pub keeper_state_after_read : {S : Type 0} (g : Ghosts S) (first old new : Held S)
    → IsKeeperState (state g first) (state g old) → LeavesTables g old new
    → IsKeeperState (state g first) (state g new)
keeper_state_after_read g first old new kept leaves = record {
  autocommit = leaves.mode kept.autocommit;
  served = λ known up.
      let was = kept.served known (before_read g old new leaves up) in
      let same = leaves.same up.0 up.1 was.settled in record {
        settled = same.0 ∙ was.settled ∙ sym same.1;
        keeps = (was.keeps.0, subst (λ (d : Database). Keeps d was.keeps.0) (sym same.0) was.keeps.1);
      };
  same = λ known up.
      let before = before_read g old new leaves up in
      let was = kept.served known before in
      let schema = kept.same known before in
      (schema.0, ap (λ (d : Database). d.schema) (leaves.same up.0 up.1 was.settled).0 ∙ schema.1);
}

pub up_before : (old new : State) {C : Trees → Type 0} → Survives old new C
    → (HasCleanDisk new → IsTrue new.is_open → IsTrue old.is_open) → IsUp new → IsUp old
up_before old new s was up = (omega (arith, s.clean, up.0), was up.0 up.1)

-- The changes fit the tables of the storage, whatever tables its rows encode.
abbrev pub FitsKeeper : State → List Change → State → Type 0
FitsKeeper first changes old = IsStore first → IsUp old → (t : Tables) → raw_in old.now.trees ≡ cells_of_tables t
    → DeltaFits changes t

-- Rows are the cells of at most one set of tables, so the new rows are those of the old tables
-- after the changes.
raw_after_changes : (old : State) (t : Tables) (changes : List Change) (db : Trees) → Keeps old.now t
    → Hold db (tables_after_delta changes t) → RawAfterChanges changes (raw_in old.now.trees) (raw_in db)
raw_after_changes old t changes db kept made u e = raw_of db (tables_after_delta changes t) made
    ∙ ap (λ (k : Tables). cells_of_tables (tables_after_delta changes k))
    (listed_one t u (sym (raw_of old.now.trees t kept.hold) ∙ e))

-- A transaction of fitting changes keeps the invariant, and applies the changes to the rows.
pub keeper_state_after_commit : (first : State) (old new : State) (changes : List Change) → IsKeeperState first old
    → (IsUp new → IsUp old) → new.in_transaction ≡ old.in_transaction → FitsKeeper first changes old
    → (IsUp new → (t : Tables) → Keeps old.now t → DeltaFits changes t
    → KeepsIn old.now.schema new.now (tables_after_delta changes t))
    → (IsUp new → new.now ≡ new.committed)
    → IsKeeperState first new × (IsStore first → IsUp new → RawAfterChanges changes (raw_in old.now.trees)
    (raw_in new.now.trees))
keeper_state_after_commit first old new changes kept before mode fits did settled = (
  record {
    autocommit = mode ∙ kept.autocommit;
    served = λ known up. record { settled = settled up; keeps = (_, (made known up).keeps) };
    same = λ known up. let was = kept.same known (before up) in (was.0, (made known up).schema_is ∙ was.1);
  },
  λ known up. let tables = (kept.served known (before up)).keeps in
      raw_after_changes old tables.0 changes new.now.trees tables.1 (made known up).keeps.hold,
)
  where
    made : (known : IsStore first) (up : IsUp new) → KeepsIn old.now.schema new.now
        (tables_after_delta changes (kept.served known (before up)).keeps.0)
    made known up =
        let tables = (kept.served known (before up)).keeps in
        did up tables.0 tables.1 (fits known (before up) tables.0 (raw_of old.now.trees tables.0 tables.1.hold))

abbrev pub IsSettled : State → Type 0
IsSettled s = (db : Trees) → IsTrue s.is_open → s.may_leave db → db ≡ s.committed.trees

left_trees : (s : State) → s.now ≡ s.committed → IsUp s → IsSettled s → (db : Trees) → s.may_leave db → db ≡ s.now.trees
left_trees s settled up law db may = law db up.1 may ∙ sym (ap (λ (d : Database). d.trees) settled)

-- A crash during a commit leaves the tables without the changes, or those with all changes.
pub leaves_either : (first : State) (old new : State) (changes : List Change) → IsKeeperState first old
    → IsSettled old → FitsKeeper first changes old → Survives old new
    (λ trees. (t : Tables) → Keeps old.now t → DeltaFits changes t → Hold trees (tables_after_delta changes t))
    → IsStore first → LeavesEither changes old new
leaves_either first old new changes kept law fits s known clean opened t is db may =
    let up : IsUp old = (omega (arith, s.clean, clean), opened) in
    let served = kept.served known up in
    let keeps = holds_shown old served t is in
    elim (s.crash clean db may) [
      | inl before ↦ inl (subst (λ trees. Hold trees t) (sym (left_trees old served.settled up law db before))
          keeps.hold)
      | inr made ↦ inr (made t keeps (fits known up t is))
    ]

pub leaves_after : (first : State) (old new : State) (changes : List Change) → IsKeeperState first new → IsSettled new
    → (IsStore first → IsUp new → RawAfterChanges changes (raw_in old.now.trees) (raw_in new.now.trees))
    → IsStore first → LeavesAfter changes old new
leaves_after first old new changes kept law done known up t is db may =
    let served = kept.served known up in
    subst (λ trees. Hold trees (tables_after_delta changes t)) (sym (left_trees new served.settled up law db may))
    (holds_shown new served (tables_after_delta changes t) (done known up t is)).hold

-- The result of a successful commit, as the caller sees it.
pub record IsDone {S : Type 0} (g : Ghosts S) (view old : KeeperView S) (changes : List Change) (new : Held S) : Type
    0 where
  pub kept : IsKeeperState (state g view.first) (state g new)
  pub ok : IsStore (state g view.first) → IsUp (state g new)
      → RawAfterChanges changes (raw_of_keeper g old) (raw_in (state g new).now.trees)
  pub durable : IsStore (state g old.first) → LeavesAfter changes (state g old.conn) (state g new)

module _ {S : Type 0} (g : Ghosts S) (view old : KeeperView S) (same : view ≡ old) (new : Held S)
    (changes : List Change) (kept : IsKeeperState (state g view.first) (state g view.conn))
    (fits : IsKeeperUp g old → (t : Tables) → raw_of_keeper g old ≡ cells_of_tables t → DeltaFits changes t)
    (crash : Survives (state g view.conn) (state g new)
    (λ trees. (t : Tables) → Keeps (state g view.conn).now t → DeltaFits changes t
    → Hold trees (tables_after_delta changes t))) (law : (h : Held S) → IsSettled (state g h)) where
  fits_keeper : FitsKeeper (state g view.first) changes (state g view.conn)
  fits_keeper = subst (λ (k : KeeperView S). FitsKeeper (state g k.first) changes (state g k.conn)) (sym same)
      (λ known up. fits (known, up))

  -- A successful transaction keeps the invariant and applies the changes, durably.
  pub is_done : {done : Bool} → IsOwnTransaction {E = Error} g view.conn new (Ok done)
      → (HasCleanDisk (state g new) → IsTrue done → (t : Tables) → Keeps (state g view.conn).now t
      → DeltaFits changes t → KeepsIn (state g view.conn).now.schema (state g new).committed
      (tables_after_delta changes t)
      × KeepsIn (state g view.conn).now.schema (state g new).now (tables_after_delta changes t))
      → IsDone g view old changes new
  is_done own all =
      let both = keeper_state_after_commit (state g view.first) (state g view.conn) (state g new) changes kept
      (up_before (state g view.conn) (state g new) crash own.was)
      own.mode fits_keeper (λ up t keeps fit. (all up.0 (own.begins kept.autocommit) t keeps fit).1)
      (λ up. own.settled up.0 up.1 kept.autocommit) in
      subst (λ (k : KeeperView S). IsDone g view k changes new) same (record {
        kept = both.0;
        ok = both.1;
        durable = leaves_after (state g view.first) (state g view.conn) (state g new) changes both.0 (law new) both.1;
      })

  pub is_either : IsStore (state g old.first) → LeavesEither changes (state g old.conn) (state g new)
  is_either = subst (λ (k : KeeperView S). IsStore (state g k.first) → LeavesEither changes (state g k.conn)
      (state g new)) same
      (leaves_either (state g view.first) (state g view.conn) (state g new) changes kept (law view.conn) fits_keeper
      crash)

-- Assumes that the commit was a transaction of its own, over a database that may hold anything.
module _ {S : Type 0} (g : Ghosts S) (start old new : Held S) (same : start ≡ old) (idle : start.in_transaction ≡ false)
    {C : Trees → Type 0} (survives : Survives (state g start) (state g new) C) {r : Result Bool Error}
    (own : IsOwnTransaction g start new r) where
  before_commit : IsUp (state g new) → IsUp (state g start)
  before_commit = up_before (state g start) (state g new) survives own.was

  pub frame_of_success : {T E : Type 0} (value : T) → DatabaseFrame {E = E} g old new (Ok value)
  frame_of_success {T} {E} value = grind (arith, common_steps, before_commit)

  pub frame_of_fault : {T E : Type 0} (error : Error) (fault : E) → r ≡ Err error
      → DatabaseFrame {T = T} g old new (Err fault)
  frame_of_fault {T} {E} error fault is = grind (arith, common_steps, before_commit)

-- A commit that succeeded has made its changes, whatever store the database was.
pub applies_done : {S E : Type 0} (g : Ghosts S) (inside old new : Held S) (changes : List Change) (r : Result Bool E)
    (done : Bool) → r ≡ Ok done → inside ≡ old → inside.in_transaction ≡ false → IsOwnTransaction g inside new r
    → (HasCleanDisk (state g new) → IfOk r (λ d. IsTrue d → (t : Tables) → Keeps (state g inside).now t
    → DeltaFits changes t
    → KeepsIn (state g inside).now.schema (state g new).committed (tables_after_delta changes t)
    × KeepsIn (state g inside).now.schema (state g new).now (tables_after_delta changes t)))
    → (HasCleanDisk (state g new) → IfOk r (λ d. IsTrue d → (t : Tables) → Keeps (state g inside).now t
    → DeltaFits changes t
    → LeavesUserTables (state g inside).now.schema (state g inside).now.trees (state g new).committed.trees))
    → AppliesAll g changes old new
applies_done {S} g inside old new changes (Ok d) done is same idle own all users clean t keeps fits =
    let was : Keeps (state g inside).now t = subst (λ (h : Held S). Keeps (state g h).now t) (sym same) keeps in (
      (all clean (own.begins idle) t was fits).1.keeps,
      subst (λ (h : Held S). LeavesUserTables (state g h).now.schema (state g h).now.trees
          (state g new).committed.trees) same (users clean (own.begins idle) t was fits),
    )
applies_done g inside old new changes (Err e) done is same idle own all users clean t keeps fits = absurd (cc)

-- A crash of a commit leaves what it could leave before, or all changes and a user's tables as they were.
pub makes_all : {S : Type 0} (g : Ghosts S) (old new : Held S) (changes : List Change)
    → Survives (state g old) (state g new) (λ trees. (t : Tables) → Keeps (state g old).now t → DeltaFits changes t
    → Hold trees (tables_after_delta changes t))
    → Survives (state g old) (state g new) (λ trees. (t : Tables) → Keeps (state g old).now t → DeltaFits changes t
    → LeavesUserTables (state g old).now.schema (state g old).now.trees trees)
    → Survives (state g old) (state g new) (MakesAll changes (state g old))
makes_all g old new changes tables users = record {
  clean = tables.clean;
  shield = tables.shield;
  counts = tables.counts;
  limit = tables.limit;
  closes = tables.closes;
  crash = λ clean db may. elim (tables.crash clean db may) [
    | inl before ↦ inl before
    | inr all ↦ elim (users.crash clean db may) [
      | inl before ↦ inl before
      | inr same ↦ inr (λ t keeps fits. (all t keeps fits, same t keeps fits))
    ]
  ];
}
