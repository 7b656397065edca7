-- The tables after changes of rows, and the conditions under which a change can be applied.
use Rattle.std.specs.Prelude.{◌≡◌, ◌≢◌, ◌<◌, ◌+◌, ℕ, List, [], ◌∷◌, ◌++◌, map, if◌then◌else◌, ◌==◌, true, not, ◌&&◌}
use Rattle.std.specs.Prelude.{length, Some, None, filter, false}
use Rattle.std.specs.declared.cmp.Ordering.{Ordering}
use Rattle.std.specs.Ordering.{eq_by_cmp}
use Rattle.thes_base.specs.Labels.{label_cmp}
use Rattle.thes_base.specs.Links.{link_cmp}
use Rattle.thes_base.specs.Resources.{entry_at, set_entry_at, IsLive}
use Rattle.thes_base.specs.Changes.{resources_after_death}
use Rattle.thes_tables.specs.declared.rows.HierRow.{HierRow}
use Rattle.thes_tables.specs.declared.rows.PostingRow.{PostingRow}
use Rattle.thes_tables.specs.declared.rows.MoveRow.{MoveRow}
use Rattle.thes_tables.specs.declared.change.Change.{Change}
use Rattle.thes_tables.specs.declared.change.Change.TheVariants as change
use Rattle.thes_tables.specs.Tables.{Tables, IsIn, hier_link}

-- The rows of table posting after `f` is applied to the row of posting `n`; unchanged if there is no such row.
abbrev pub with_posting : (PostingRow → PostingRow) → ℕ → List PostingRow → List PostingRow
with_posting f n rows = elim (entry_at rows n) [ None ↦ rows | Some row ↦ set_entry_at rows n (f row) ]

-- The row of a posting after its withdrawal.
abbrev pub row_after_withdrawal : PostingRow → PostingRow
row_after_withdrawal row = record row { withdrawn = true }

-- The row of a posting after the posting is assigned to `place`.
abbrev pub row_at_place : ℕ → PostingRow → PostingRow
row_at_place place row = record row { place = place }

-- The row of a posting after all postings assigned to the source are assigned to the target; the row of a withdrawn
-- posting is unchanged.
abbrev pub row_after_move_all : ℕ → ℕ → PostingRow → PostingRow
row_after_move_all source target row = if not row.withdrawn && row.place == source then row_at_place target row else row

-- The rows of a table without those equal to `row` in the order `cmp`.
abbrev pub without_row : {K : Type 0} → (K → K → Ordering) → K → List K → List K
without_row cmp row rows = filter (λ x. not (eq_by_cmp cmp x row)) rows

-- The rows of table hier without those that encode the same link as `row`.
abbrev pub without_hier : HierRow → List HierRow → List HierRow
without_hier row rows = filter (λ x. not (eq_by_cmp link_cmp (hier_link x) (hier_link row))) rows

-- The tables after one change. A new row is appended; a change to a row that doesn't exist changes nothing.
abbrev pub tables_after_change : Change → Tables → Tables
tables_after_change (change.AddResource n r) t = record t { resource = t.resource ++ r ∷ [] }
tables_after_change (change.Retire n) t = record t { resource = resources_after_death n None t.resource }
tables_after_change (change.Replace n by) t = record t { resource = resources_after_death n (Some by) t.resource }
tables_after_change (change.AddOutside n iri) t = record t { outside = t.outside ++ (n, iri) ∷ [] }
tables_after_change (change.AddLabel l) t = record t { label = t.label ++ l ∷ [] }
tables_after_change (change.DropLabel l) t = record t { label = without_row label_cmp l t.label }
tables_after_change (change.AddLink l) t = record t { link = t.link ++ l ∷ [] }
tables_after_change (change.DropLink l) t = record t { link = without_row link_cmp l t.link }
tables_after_change (change.AddHier row) t = record t { hier = t.hier ++ row ∷ [] }
tables_after_change (change.DropHier row) t = record t { hier = without_hier row t.hier }
tables_after_change (change.AddPosting row) t = record t { posting = t.posting ++ row ∷ [] }
tables_after_change (change.Withdraw n) t = record t { posting = with_posting row_after_withdrawal n t.posting }
tables_after_change (change.SetPlace n place) t = record t { posting = with_posting (row_at_place place) n t.posting }
tables_after_change (change.MoveAll source target) t =
    record t { posting = map (row_after_move_all source target) t.posting }
tables_after_change (change.AddMove row) t = record t { move = t.move ++ row ∷ [] }

-- The tables after the changes of a list, in order.
abbrev pub tables_after_delta : List Change → Tables → Tables
tables_after_delta [] t = t
tables_after_delta (c ∷ changes) t = tables_after_delta changes (tables_after_change c t)

-- The change can be applied, and isn't one that changes nothing. A row that it inserts is new; its number, if it has
-- one, is the next one, or, in the tables outside and move, greater than all others. A new posting also has a new key.
-- A row that it deletes is there. A resource that it marks as dead is live, and a posting that it marks as withdrawn
-- isn't withdrawn. Changes of places can always be applied.
abbrev pub ChangeFits : Change → Tables → Type 0
ChangeFits (change.AddResource n r) t = n ≡ length t.resource + 1
ChangeFits (change.Retire n) t = IsLive t.resource n
ChangeFits (change.Replace n by) t = IsLive t.resource n
ChangeFits (change.AddOutside n iri) t = (other : ℕ × List ℕ) → IsIn other t.outside → other.0 < n
ChangeFits (change.AddLabel l) t = IsIn l t.label → ⊥
ChangeFits (change.DropLabel l) t = IsIn l t.label
ChangeFits (change.AddLink l) t = IsIn l t.link → ⊥
ChangeFits (change.DropLink l) t = IsIn l t.link
ChangeFits (change.AddHier row) t = IsIn row t.hier → ⊥
ChangeFits (change.DropHier row) t = IsIn row t.hier
ChangeFits (change.AddPosting row) t = (row.number ≡ length t.posting + 1)
    × ((other : PostingRow) → IsIn other t.posting → other.key ≢ row.key)
ChangeFits (change.Withdraw n) t = (row : PostingRow) × (entry_at t.posting n ≡ Some row) × (row.withdrawn ≡ false)
ChangeFits (change.SetPlace n place) t = Unit {0}
ChangeFits (change.MoveAll source target) t = Unit {0}
ChangeFits (change.AddMove row) t = (other : MoveRow) → IsIn other t.move → other.number < row.number

-- Each change of the list can be applied after the changes before it.
abbrev pub DeltaFits : List Change → Tables → Type 0
DeltaFits [] t = Unit {0}
DeltaFits (c ∷ changes) t = ChangeFits c t × DeltaFits changes (tables_after_change c t)
