-- Proves that each UPDATE and each DELETE makes its change.
use Rattle.std.proofs.Common.{◌≡◌, ℕ, pos, List, [], ◌∷◌, ◌==◌, map, filter, slice_get, Bool, not, ◌&&◌, if◌then◌else◌}
use Rattle.std.proofs.Common.{Some, None, Option, Ok, refl, sym, subst}
use Rattle.std.specs.List.{list_all}
use Rattle.std.specs.Ordering.{eq_by_cmp}
use Rattle.sqlite.specs.declared.types.Value.TheVariants.{Null, Int}
use Rattle.sqlite.specs.Order.{Row}
use Rattle.sqlite.specs.Term.{Term, lit, col, holds}
use Rattle.sqlite.specs.Query.{output}
use Rattle.sqlite.specs.Command.TheVariants.{Update, Delete}
use Rattle.sqlite.specs.Table.{Table}
use Rattle.sqlite.specs.declared.types.Value.{Value}
use Rattle.sqlite.specs.State.{State, Executes}
use Rattle.thes_base.specs.declared.data.Resource.{Resource}
use Rattle.thes_base.specs.declared.data.Link.{Link}
use Rattle.thes_base.specs.Labels.{Label, label_cmp}
use Rattle.thes_base.specs.Links.{link_cmp}
use Rattle.thes_base.specs.Changes.{resource_after_death, resources_after_death}
use Rattle.thes_tables.specs.declared.rows.HierRow.{HierRow}
use Rattle.thes_tables.specs.declared.rows.PostingRow.{PostingRow}
use Rattle.thes_tables.specs.declared.change.Change.TheVariants as change
use Rattle.thes_tables.specs.Tables.{Tables, hier_link}
use Rattle.thes_tables.specs.Rows.{row_after_withdrawal, row_at_place, without_row, without_hier}
use Rattle.thes_sql.specs.Schema.{resource_table, label_table, link_table, hier_table, posting_table}
use Rattle.thes_sql.specs.Additions.{IsStoreSchema, store_tables}
use Rattle.thes_sql.specs.OldStore.{KeepsAs}
use Rattle.thes_sql.specs.StoredRows.{AreKeyed, AreHidden, hidden_row, stored_resource, stored_posting, label_values}
use Rattle.thes_sql.specs.StoredRows.{link_values, hier_values, numbered_from, IsSpelledLabel, IsSpelledPosting}
use Rattle.thes_sql.proofs.StatementTextLemmas.{plain_query, whole_program, IsCommandText, number_filter}
use Rattle.thes_sql.proofs.StatementTextLemmas.{resource_columns, statement_is}
use Rattle.thes_sql.proofs.StatementLemmas.{Rewrites, rewrites_as, updates, deletes}
use Rattle.thes_sql.proofs.HeldTableLemmas.{BecomesAs, becomes_resource, becomes_label, becomes_link, becomes_hier, becomes_posting}
use Rattle.thes_sql.proofs.InsertLemmas.{cast_resource, cast_posting, hidden_drop, Makes, makes_change}
use Rattle.sqlite_trees.proofs.ListLemmas.{all-filter}
use Rattle.thes_sql.proofs.TableRowLemmas.{all_turned}
use Rattle.thes_sql.proofs.WhereLemmas.{by_resource, by_number, by_place, by_label, by_link, by_hier}
use Rattle.thes_sql.proofs.NumberedChangeLemmas.{dead_is, posting_is, still_numbered}

-- An UPDATE that marks a resource as dead changes exactly the row of that resource.
marks_dead : (sql : List ℕ) (params : Row) (n : ℕ) (by : Option ℕ) (live replaced : Term)
    → IsCommandText sql (Update 1 (whole_program (plain_query 1 number_filter (resource_columns live replaced) [])))
    → ((row : ℕ × Resource) → output (plain_query 1 number_filter (resource_columns live replaced) [])
    ((Int (pos n) ∷ params) ∷ stored_resource row ∷ []) ≡
    ([], Int (pos row.0) ∷ stored_resource (row.0, resource_after_death by row.1)))
    → (old new : State) (t : Tables) (count : ℕ) → KeepsAs 2 old.now t
    → Executes sql (Int (pos n) ∷ params) old new (Ok count)
    → BecomesAs 2 old.now new.now (record t { resource = resources_after_death n by t.resource })
marks_dead sql params n by live replaced is shows old new t count kept h =
    let w = updates (λ (row : ℕ × Resource). row.0) stored_resource (λ row. refl) 1
    (record resource_table { tree = 1 }) refl sql (Int (pos n) ∷ params) number_filter
    (λ row. row.0 == n) (by_resource params n) (resource_columns live replaced) is
    (λ row. (row.0, resource_after_death by row.1)) (λ row. refl) shows
    (λ row. cast_resource (row.0, resource_after_death by row.1)) old new (numbered_from 1 t.resource) count
    kept.schema kept.hold.resource h in
    becomes_resource 2 old new t kept (resources_after_death n by t.resource) (rewrites_as 1 old new
    (subst (λ l. AreKeyed stored_resource (λ (row : ℕ × Resource). row.0) l (new.now.trees 1))
    (sym (dead_is n by t.resource))) w)

pub makes_retired : (n : ℕ) → Makes (Int (pos n) ∷ []) (change.Retire n)
makes_retired n = makes_change _ (change.Retire n) (λ old new t count kept fits h.
    marks_dead _ [] n None (lit (Int (pos 0))) (lit Null) (statement_is (change.Retire n)) (λ row. refl) old new t count
    kept h)

pub makes_replaced : (n by : ℕ) → Makes (Int (pos n) ∷ Int (pos by) ∷ []) (change.Replace n by)
makes_replaced n by = makes_change _ (change.Replace n by) (λ old new t count kept fits h.
    marks_dead _ (Int (pos by) ∷ []) n (Some by) (lit (Int (pos 0))) (col 0 1) (statement_is (change.Replace n by))
    (λ row. refl) old new t count kept h)

-- An UPDATE of the postings that pass a test changes exactly these postings.
updates_posting : (sql : List ℕ) (params : Row) (filters project : List Term)
    (is : IsCommandText sql (Update 5 (whole_program (plain_query 8 filters project []))))
    (p : PostingRow → Bool) (test : (x : PostingRow) → list_all
    (holds (params ∷ stored_posting x ∷ [])) filters ≡ p x)
    (f : PostingRow → PostingRow) (keeps : (x : PostingRow) → (f x).number ≡ x.number)
    (told : (x : PostingRow) → IsSpelledPosting x → IsSpelledPosting (f x))
    → ((x : PostingRow) → output (plain_query 8 filters project [])
    (params ∷ stored_posting x ∷ []) ≡ ([], Int (pos x.number) ∷ stored_posting (f x)))
    → (old new : State) (t : Tables) (count : ℕ) → KeepsAs 2 old.now t → Executes sql params old new (Ok count)
    → BecomesAs 2 old.now new.now (record t { posting = map (λ x. if p x then f x else x) t.posting })
updates_posting sql params filters project is p test f keeps told shows old new t count kept h =
    becomes_posting 2 old new t kept (map (λ x. if p x then f x else x) t.posting)
    (updates (λ (x : PostingRow). x.number) stored_posting (λ x. refl) 5 (record posting_table { tree = 8 }) refl
    sql params filters p test project is f keeps shows
    (λ x. cast_posting (f x)) old new t.posting count kept.schema kept.hold.posting h)
    (still_numbered f p keeps 1 t.posting kept.hold.numbered)
    (all_turned IsSpelledPosting p f told t.posting kept.hold.spelled.1.1.1)

pub makes_withdrawn : (n : ℕ) → Makes (Int (pos n) ∷ []) (change.Withdraw n)
makes_withdrawn n = makes_change _ (change.Withdraw n) (λ old new t count kept fits h.
    subst (λ (l : List PostingRow). BecomesAs 2 old.now new.now (record t { posting = l }))
    (sym (posting_is row_after_withdrawal n t.posting kept.hold.numbered))
    (updates_posting _ (Int (pos n) ∷ []) _ _ (statement_is (change.Withdraw n)) (λ x. x.number == n) (by_number [] n)
    row_after_withdrawal (λ x. refl) (λ x s. s) (λ x. refl) old new t count kept h))

pub makes_placed : (n place : ℕ) → Makes (Int (pos n) ∷ Int (pos place) ∷ []) (change.SetPlace n place)
makes_placed n place = makes_change _ (change.SetPlace n place) (λ old new t count kept fits h.
    subst (λ (l : List PostingRow). BecomesAs 2 old.now new.now (record t { posting = l }))
    (sym (posting_is (row_at_place place) n t.posting kept.hold.numbered))
    (updates_posting _ (Int (pos n) ∷ Int (pos place) ∷ []) _ _ (statement_is (change.SetPlace n place))
    (λ x. x.number == n) (by_number (Int (pos place) ∷ []) n) (row_at_place place) (λ x. refl) (λ x s. s) (λ x. refl)
    old new t count kept h))

pub makes_moved : (source target : ℕ) → Makes (Int (pos source) ∷ Int (pos target) ∷ []) (change.MoveAll source target)
makes_moved source target = makes_change _ (change.MoveAll source target) (λ old new t count kept fits h.
    updates_posting _ (Int (pos source) ∷ Int (pos target) ∷ []) _ _ (statement_is (change.MoveAll source target))
    (λ x. not x.withdrawn && x.place == source) (by_place (Int (pos target) ∷ []) source) (row_at_place target)
    (λ x. refl) (λ x s. s) (λ x. refl) old new t count kept h)

-- A DELETE of the row with these values deletes exactly this row.
deletes_hidden : {A : Type 0} (of : A → List Value) (at : ℕ) (table : Table) → slice_get store_tables at
    ≡ Some table
    → (sql : List ℕ) (x : A) (filters : List Term)
    → IsCommandText sql (Delete at (whole_program (plain_query table.tree filters (col 1 0 ∷ []) [])))
    → (p : A → Bool) → ((row : ℕ × A) → list_all (holds (of x ∷ hidden_row of row ∷ [])) filters ≡ p row.1)
    → (old new : State) (xs : List A) (count : ℕ) → IsStoreSchema old.now.schema
    → AreHidden of xs (old.now.trees table.tree) → Executes sql (of x) old new (Ok count)
    → Rewrites table.tree (AreHidden of (filter (λ y. not (p y)) xs)) old new
deletes_hidden {A} of at table is_at sql x filters is p test old new xs count has held h =
    rewrites_as table.tree old new (hidden_drop of (λ y. not (p y)) xs (old.now.trees table.tree)
    (new.now.trees table.tree) held)
    (deletes (λ (row : ℕ × A). row.0) (hidden_row of) (λ row. refl) at table is_at sql (of x) filters
    (λ row. p row.1) test is (λ row. refl) old new held.given count has held.held h)

pub makes_label_gone : (l : Label) → Makes (label_values l) (change.DropLabel l)
makes_label_gone l = makes_change _ (change.DropLabel l) (λ old new t count kept fits h.
    becomes_label 2 old new t kept (without_row label_cmp l t.label)
    (deletes_hidden label_values 3 (record label_table { tree = 4 }) refl _ l _
    (statement_is (change.DropLabel l)) (λ x. eq_by_cmp label_cmp x l) (by_label l) old new t.label count
    kept.schema kept.hold.label h)
    (all-filter IsSpelledLabel (λ y. not (eq_by_cmp label_cmp y l)) t.label kept.hold.spelled.1.1.0))

pub makes_link_gone : (l : Link) → Makes (link_values l) (change.DropLink l)
makes_link_gone l = makes_change _ (change.DropLink l) (λ old new t count kept fits h.
    becomes_link 2 old new t kept (without_row link_cmp l t.link)
    (deletes_hidden link_values 4 (record link_table { tree = 6 }) refl _ l _
    (statement_is (change.DropLink l)) (λ x. eq_by_cmp link_cmp x l) (by_link l) old new t.link count
    kept.schema kept.hold.link h))

pub makes_hier_gone : (l : HierRow) → Makes (hier_values l) (change.DropHier l)
makes_hier_gone l = makes_change _ (change.DropHier l) (λ old new t count kept fits h.
    becomes_hier 2 old new t kept (without_hier l t.hier)
    (deletes_hidden hier_values 7 (record hier_table { tree = 11 }) refl _ l _
    (statement_is (change.DropHier l)) (λ x. eq_by_cmp link_cmp (hier_link x) (hier_link l)) (by_hier l) old new
    t.hier count kept.schema kept.hier h))
