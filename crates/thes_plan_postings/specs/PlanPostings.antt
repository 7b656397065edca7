-- The postings that the requests of a plan have changed so far, over the tables, in which nothing is changed yet.
use Rattle.std.specs.Prelude.{◌≡◌, ◌≢◌, ◌||◌, ◌&&◌, ◌==◌, ℕ, List, Bool, true, false, not, Option, None, Some, length}
use Rattle.std.specs.Prelude.{◌++◌, ◌∷◌, [], ◌↔◌, Contains, cond, nat_eq}
use Rattle.std.specs.List.{list_any}
use Rattle.std.specs.List.Sorted.{IsStrictlySortedBy}
use Rattle.std.specs.BTreeMap.{get, keys}
use Rattle.std.specs.Ordering.{nat_cmp}
use Rattle.thes_base.specs.Types.{Number}
use Rattle.thes_base.specs.Resources.{entry_at}
use Rattle.thes_tables.specs.declared.rows.PostingRow.{PostingRow}
use Rattle.thes_tables.specs.Cells.{Raw, cells_of_tables}
use Rattle.thes_tables.specs.Tables.{IsIn, Tables}
use Rattle.thes_plan_postings.specs.declared.plan_postings.Placement.{Placement}
use Rattle.thes_plan_postings.specs.declared.plan_postings.PlanPostings.{PlanPostings}

-- The placement of the posting with the number, if the plan has added, moved or withdrawn it.
abbrev pub placement_of : PlanPostings → Number → Option Placement
placement_of postings n = get nat_cmp postings.placements n

-- The row of a posting with this placement in place of its own; unchanged for None.
abbrev pub row_placed : Option Placement → PostingRow → PostingRow
row_placed None row = row
row_placed (Some x) row = record row { place = x.place; withdrawn = x.withdrawn }

-- The row of posting `n` in `rows` is its row in `bases`, the rows of the tables and then the added ones, with the
-- placement `x`.
pub record HasPlacement (bases rows : List PostingRow) (n : Number) (x : Placement) : Type 0 where
  pub row : PostingRow
  pub base : entry_at bases n ≡ Some row
  pub now : entry_at rows n ≡ Some (row_placed (Some x) row)

-- The changes of the plan so far turn `olds`, the rows of table posting, into `rows`. A row that the plan has neither
-- added nor changed is the same in both; any other row has the placement that the plan has given it.
pub record ArePlanRows (olds rows : List PostingRow) (postings : PlanPostings) : Type 0 where
  pub count : length rows ≡ length (olds ++ postings.added.items)
  pub numbered : (n : Number) (row : PostingRow) → entry_at rows n ≡ Some row → row.number ≡ n
  pub others : (n : Number) → placement_of postings n ≡ None → entry_at rows n ≡ entry_at olds n
  pub placed : (n : Number) (x : Placement) → placement_of postings n ≡ Some x
      → HasPlacement (olds ++ postings.added.items) rows n x

-- Each row has the number of its position, counted from 1.
abbrev pub AreNumbered : List PostingRow → Type 0
AreNumbered rows = (n : Number) (row : PostingRow) → entry_at rows n ≡ Some row → row.number ≡ n

-- The property holds for the rows into which the changes of the plan so far turn those of the tables.
abbrev pub InPlanRows : Raw → PlanPostings → (List PostingRow → Type 0) → Type 0
InPlanRows raw postings P = (t : Tables) (rows : List PostingRow) → raw ≡ cells_of_tables t
    → ArePlanRows t.posting rows postings → P rows

-- The property holds for the rows of the tables and then the added ones, without the placements that the plan has given
-- them.
abbrev pub InBaseRows : Raw → PlanPostings → (List PostingRow → Type 0) → Type 0
InBaseRows raw postings P = (t : Tables) (rows : List PostingRow) → raw ≡ cells_of_tables t
    → ArePlanRows t.posting rows postings → P (t.posting ++ postings.added.items)

-- The result is a row with the number, or None if no row has it.
abbrev pub IsRowOfNumber : Number → List PostingRow → Option PostingRow → Type 0
IsRowOfNumber n rows (Some row) = IsIn row rows × (row.number ≡ n)
IsRowOfNumber n rows None = (row : PostingRow) → IsIn row rows → row.number ≢ n

-- Whether a posting is assigned to the concept, given its placement by the plan; if the plan hasn't changed the
-- posting, `by_tables` says whether the tables assign it to the concept.
abbrev pub is_assigned_by : Number → Bool → Option Placement → Bool
is_assigned_by concept by_tables None = by_tables
is_assigned_by concept by_tables (Some x) = not x.withdrawn && x.place == concept

-- Whether the list has the number.
abbrev pub has_number : List ℕ → ℕ → Bool
has_number numbers n = list_any (nat_eq n) numbers

-- Whether the number `n` is among the candidates, and its posting is assigned to the concept after the plan's changes
-- so far. For a posting that the plan hasn't changed, `by_tables` says whether the tables assign it to the concept.
abbrev pub is_assigned_candidate : PlanPostings → List ℕ → Number → Bool → ℕ → Bool
is_assigned_candidate postings candidates concept by_tables n =
    has_number candidates n && is_assigned_by concept by_tables (placement_of postings n)

-- The numbers are those of the postings that are assigned to the concept after the plan's changes so far, in increasing
-- order. `standing` are the numbers of those that the tables assign to it.
pub record AreAssigned (postings : PlanPostings) (concept : Number) (standing numbers : List ℕ) : Type 0 where
  pub rises : IsStrictlySortedBy nat_cmp numbers
  pub has : (n : ℕ) → Contains numbers n ↔ ((is_assigned_candidate postings standing concept true n
      || is_assigned_candidate postings (keys postings.placements) concept false n) ≡ true)

-- The plan gives the listed postings this placement; the placements of other postings, and the added rows, are
-- unchanged.
pub record PlacesAll (old new : PlanPostings) (numbers : List ℕ) (x : Placement) : Type 0 where
  pub placements : (n : Number) → placement_of new n
      ≡ cond (has_number numbers n) (Some x) (placement_of old n)
  pub added : new.added.items ≡ old.added.items

-- The plan adds a posting, with the placement that its row has.
pub record AddsPosting (old new : PlanPostings) (row : PostingRow) : Type 0 where
  pub placements : (n : Number) → placement_of new n
      ≡ cond (has_number (row.number ∷ []) n) (Some (record { place = row.place; withdrawn = row.withdrawn }))
      (placement_of old n)
  pub added : new.added.items ≡ old.added.items ++ row ∷ []
