-- The labels of all owners, stored as a row for each owner, at the index that is the owner's number.
use Rattle.std.specs.Prelude.{◌≡◌, ◌≢◌, ℕ, ◌+◌, List, [], ◌∷◌, ◌++◌, map, Bool, false, not, ◌&&◌, ◌||◌, slice_get}
use Rattle.std.specs.Prelude.{Result, IfOk, OnOk, OnErr}
use Rattle.std.specs.Ordering.{nat_cmp, eq_by_cmp}
use Rattle.std.specs.Option.{unwrap_or}
use Rattle.std.specs.FinSet as set
use Rattle.thes_base.specs.Data.{LabelData}
use Rattle.thes_base.specs.Labels.{Label, Labels}
use Rattle.thes_base.specs.Machine.{owned_label}
use Rattle.thes_vocab.specs.OwnLabels.{data_cmp, has_own}

-- The labels of all owners: the n-th row, counted from 0, has those of owner n.
abbrev pub LabelRows : Type 0
LabelRows = List (List LabelData)

-- The set of the labels of the list, each with the owner.
abbrev pub labels_of_owner : ℕ → List LabelData → Labels
labels_of_owner owner own = set.from_list (map (owned_label owner) own)

-- The labels of all rows, each with its owner, if the first row is that of owner `n`.
abbrev pub all_owned : ℕ → LabelRows → List Label
all_owned n [] = []
all_owned n (row ∷ rows) = map (owned_label n) row ++ all_owned (n + 1) rows

-- The labels of all rows, as a set.
abbrev pub labels_in : LabelRows → Labels
labels_in rows = set.from_list (all_owned 0 rows)

-- The owner's row, or the empty row if there is none.
abbrev pub owner_row : LabelRows → ℕ → List LabelData
owner_row rows owner = unwrap_or (slice_get rows owner) []

-- The row has exactly the owner's labels.
abbrev pub IsRowOfOwner : Labels → ℕ → List LabelData → Type 0
IsRowOfOwner labels owner row = (l : LabelData) → has_own row l ≡ set.contains labels (owned_label owner l)

-- The owner has no labels in the set.
abbrev pub HasNoLabels : Labels → ℕ → Type 0
HasNoLabels labels owner = (l : LabelData) → set.contains labels (owned_label owner l) ≡ false

-- The new rows are the old ones after the insertion of a label for the owner.
abbrev pub RowsAfterInsert : LabelRows → LabelRows → ℕ → LabelData → Type 0
RowsAfterInsert old new owner l = (n : ℕ) (q : LabelData) →
    has_own (owner_row new n) q ≡ ((eq_by_cmp nat_cmp n owner && eq_by_cmp data_cmp q l) || has_own (owner_row old n) q)

-- The new rows are the old ones after the removal of a label of the owner.
abbrev pub RowsAfterRemove : LabelRows → LabelRows → ℕ → LabelData → Type 0
RowsAfterRemove old new owner l = (n : ℕ) (q : LabelData) →
    has_own (owner_row new n) q
    ≡ (not (eq_by_cmp nat_cmp n owner && eq_by_cmp data_cmp q l) && has_own (owner_row old n) q)

-- The new rows are the old ones with `row` in place of the owner's row.
pub record IsRowWritten (old new : LabelRows) (owner : ℕ) (row : List LabelData) : Type 0 where
  pub own : owner_row new owner ≡ row
  pub others : (n : ℕ) → n ≢ owner → owner_row new n ≡ owner_row old n

-- The new rows are the old ones after the insertion of labels for the owner.
pub record RowsAfterInsertions (old new : LabelRows) (owner : ℕ) (inserted : List LabelData) : Type 0 where
  pub own : (l : LabelData) → has_own (owner_row new owner) l ≡ (has_own inserted l || has_own (owner_row old owner) l)
  pub others : (n : ℕ) → n ≢ owner → owner_row new n ≡ owner_row old n

-- Each owner has the same row in both; a missing row counts as an empty one.
abbrev pub AreSameLabelRows : LabelRows → LabelRows → Type 0
AreSameLabelRows old new = (n : ℕ) → owner_row new n ≡ owner_row old n

-- The outcome of inserting a label for the owner: Ok with whether the label is new, and the owner then has it; or Err,
-- and no owner's row has changed.
pub record InsertsInRow {E : Type 0} (old new : LabelRows) (owner : ℕ) (l : LabelData) (result : Result Bool E)
    : Type 0 where
  pub answer : IfOk result (λ is_new. is_new ≡ not (has_own (owner_row old owner) l))
  pub ok : OnOk result (RowsAfterInsert old new owner l)
  pub err : OnErr result (AreSameLabelRows old new)
