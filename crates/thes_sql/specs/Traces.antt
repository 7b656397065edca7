-- The traces that a change of one row leaves in tables, by which a later query finds out whether it was made.
use mathlib.Core.Logic.{inl, inr}
use Rattle.std.specs.Prelude.{◌≡◌, ◌⊎◌, ◌==◌, ◌&&◌, ℕ, Bool, false, not, length, List, Option, None, Some, Result, IfOk}
use Rattle.std.specs.List.{list_any}
use Rattle.std.specs.Ordering.{eq_by_cmp}
use Rattle.sqlite.specs.Order.{Row}
use Rattle.sqlite.specs.State.{State, HasCleanDisk, Shown}
use Rattle.sqlite.specs.Held.{Held, state}
use Rattle.sqlite_trees.specs.declared.store.Store.{Ghosts}
use Rattle.thes_base.specs.declared.data.Resource.{Resource}
use Rattle.thes_base.specs.declared.data.Link.{Link}
use Rattle.thes_base.specs.Labels.{Label, label_cmp}
use Rattle.thes_base.specs.Links.{link_cmp}
use Rattle.thes_tables.specs.declared.change.Change.{Change}
use Rattle.thes_tables.specs.declared.change.Change.TheVariants as change
use Rattle.thes_tables.specs.declared.rows.HierRow.{HierRow}
use Rattle.thes_tables.specs.declared.rows.PostingRow.{PostingRow}
use Rattle.thes_tables.specs.declared.rows.MoveRow.{MoveRow}
use Rattle.thes_tables.specs.Tables.{Tables, hier_link}
use Rattle.thes_sql.specs.StoredRows.{Keeps, numbered_from}

-- Whether a resource has the number.
abbrev pub has_resource : ℕ → Tables → Bool
has_resource n t = list_any (λ (row : ℕ × Resource). row.0 == n) (numbered_from 1 t.resource)

-- Whether the resource with the number is dead.
abbrev pub has_dead : ℕ → Tables → Bool
has_dead n t = list_any (λ (row : ℕ × Resource). row.0 == n && not row.1.live) (numbered_from 1 t.resource)

-- Whether an outside concept has the number.
abbrev pub has_outside : ℕ → Tables → Bool
has_outside n t = list_any (λ (row : ℕ × List ℕ). row.0 == n) t.outside

-- Whether a posting has the number.
abbrev pub has_posting : ℕ → Tables → Bool
has_posting n t = list_any (λ (x : PostingRow). x.number == n) t.posting

-- Whether the posting with the number is withdrawn.
abbrev pub has_withdrawn : ℕ → Tables → Bool
has_withdrawn n t = list_any (λ (x : PostingRow). x.number == n && x.withdrawn) t.posting

-- Whether a move has the number.
abbrev pub has_move : ℕ → Tables → Bool
has_move n t = list_any (λ (x : MoveRow). x.number == n) t.move

-- Whether both rows of table hier encode the same link.
abbrev pub is_same_hier : HierRow → HierRow → Bool
is_same_hier a b = eq_by_cmp link_cmp (hier_link a) (hier_link b)

-- A row of one of the three tables whose rows are deleted: label, link and hier.
abbrev pub ListedRow : Type 0
ListedRow = Label ⊎ (Link ⊎ HierRow)

-- Whether the tables have the row.
abbrev pub has_listed : ListedRow → Tables → Bool
has_listed (inl label) t = list_any (λ x. eq_by_cmp label_cmp x label) t.label
has_listed (inr (inl link)) t = list_any (λ x. eq_by_cmp link_cmp x link) t.link
has_listed (inr (inr row)) t = list_any (λ x. is_same_hier x row) t.hier

-- The row of label, link or hier that a change inserts or deletes; None for a change of another table.
abbrev pub row_of : Change → Option ListedRow
row_of (change.AddLabel label) = Some (inl label)
row_of (change.DropLabel label) = Some (inl label)
row_of (change.AddLink link) = Some (inr (inl link))
row_of (change.DropLink link) = Some (inr (inl link))
row_of (change.AddHier row) = Some (inr (inr row))
row_of (change.DropHier row) = Some (inr (inr row))
row_of _ = None

-- Whether the tables have the row; false for None.
abbrev pub has_row : Option ListedRow → Tables → Bool
has_row None t = false
has_row (Some row) t = has_listed row t

-- Whether the tables show the change: they have the row that it inserts, found by its number if it has one; lack the
-- row that it deletes; or have the mark, dead or withdrawn, that it sets. False for SetPlace and MoveAll, after which
-- the places may be the same as before.
abbrev pub shows_change : Change → Tables → Bool
shows_change (change.AddResource n r) t = has_resource n t
shows_change (change.Retire n) t = has_dead n t
shows_change (change.Replace n by) t = has_dead n t
shows_change (change.AddOutside n iri) t = has_outside n t
shows_change (change.AddLabel label) t = has_listed (inl label) t
shows_change (change.DropLabel label) t = not (has_listed (inl label) t)
shows_change (change.AddLink link) t = has_listed (inr (inl link)) t
shows_change (change.DropLink link) t = not (has_listed (inr (inl link)) t)
shows_change (change.AddHier row) t = has_listed (inr (inr row)) t
shows_change (change.DropHier row) t = not (has_listed (inr (inr row)) t)
shows_change (change.AddPosting row) t = has_posting row.number t
shows_change (change.Withdraw n) t = has_withdrawn n t
shows_change (change.SetPlace n place) t = false
shows_change (change.MoveAll source target) t = false
shows_change (change.AddMove row) t = has_move row.number t

-- The query returns rows, and `found` is whether there is at least one.
abbrev pub IsAnswered : List ℕ → Row → State → State → Bool → Type 0
IsAnswered sql params old new found =
    (out : List Row) × Shown sql params old new out × (found ≡ not (length out == 0))

-- If the database is a store, and its disk hasn't failed silently, a call that succeeds returns whether the store's
-- tables pass the test `trace`.
abbrev pub ShowsTrace : {S E : Type 0} → Ghosts S → (Tables → Bool) → Held S → Held S → Result Bool E → Type 0
ShowsTrace g trace old new r =
    HasCleanDisk (state g new) → IfOk r (λ found. (t : Tables) → Keeps (state g old).now t → found ≡ trace t)
