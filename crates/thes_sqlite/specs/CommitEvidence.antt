-- The change of a list that shows whether the whole list was made, given that all its changes were made or none was.
use mathlib.Core.Logic.{inl, inr}
use Rattle.std.specs.Prelude.{◌≡◌, Bool, true, false, not, cond, List, [], ◌∷◌, Option, None, Some}
use Rattle.std.specs.List.{find}
use Rattle.std.specs.Option.{option_or}
use Rattle.std.specs.Ordering.{eq_by_cmp}
use Rattle.sqlite.specs.Effect.{Database}
use Rattle.thes_base.specs.Labels.{label_cmp}
use Rattle.thes_base.specs.Links.{link_cmp}
use Rattle.thes_tables.specs.declared.change.Change.{Change}
use Rattle.thes_tables.specs.declared.change.Change.TheVariants as change
use Rattle.thes_tables.specs.Rows.{tables_after_delta, DeltaFits}
use Rattle.thes_tables.specs.Tables.{Tables}
use Rattle.thes_sql.specs.StoredRows.{Keeps}
use Rattle.thes_sql.specs.Traces.{ListedRow, is_same_hier, row_of, has_row}

-- Whether the change inserts a row that is never deleted.
abbrev pub inserts_for_good : Change → Bool
inserts_for_good (change.AddResource n r) = true
inserts_for_good (change.AddOutside n iri) = true
inserts_for_good (change.AddPosting row) = true
inserts_for_good (change.AddMove row) = true
inserts_for_good _ = false

-- Whether the change marks a row, and no change removes the mark.
abbrev pub marks_for_good : Change → Bool
marks_for_good (change.Retire n) = true
marks_for_good (change.Replace n by) = true
marks_for_good (change.Withdraw n) = true
marks_for_good _ = false

-- Whether the change sets the places of postings, and inserts no move.
abbrev pub sets_places : Change → Bool
sets_places (change.SetPlace n place) = true
sets_places (change.MoveAll source target) = true
sets_places _ = false

-- Whether both are the same row of label, link or hier.
abbrev pub is_equal_row : ListedRow → ListedRow → Bool
is_equal_row (inl a) (inl b) = eq_by_cmp label_cmp a b
is_equal_row (inr (inl a)) (inr (inl b)) = eq_by_cmp link_cmp a b
is_equal_row (inr (inr a)) (inr (inr b)) = is_same_hier a b
is_equal_row _ _ = false

-- Whether there are two rows of label, link or hier, and they are the same.
abbrev pub are_same : Option ListedRow → Option ListedRow → Bool
are_same (Some a) (Some b) = is_equal_row a b
are_same _ _ = false

-- Whether the changes insert or delete the row an odd number of times. Since insertions and deletions of a row
-- alternate, the row is then there afterwards exactly if it wasn't before.
abbrev pub turns : List Change → Option ListedRow → Bool
turns [] row = false
turns (c ∷ changes) row = cond (are_same (row_of c) row) (not (turns changes row)) (turns changes row)

-- The last change in `rest` whose row the list `changes` inserts or deletes an odd number of times.
abbrev pub last_turning : List Change → List Change → Option Change
last_turning changes [] = None
last_turning changes (c ∷ rest) =
    option_or (last_turning changes rest) (cond (turns changes (row_of c)) (Some c) None)

-- The change that shows whether all were made: the first insertion for good, else the first mark, else the last change
-- of a row that is there afterwards and wasn't before, or the reverse. None if no change shows it.
abbrev pub evidence : List Change → Option Change
evidence changes =
    option_or (find inserts_for_good changes) (option_or (find marks_for_good changes) (last_turning changes changes))

-- Both sets of tables have the same rows; those of label, link and hier may be in another order.
pub record HaveSameRows (t u : Tables) : Type 0 where
  pub same_base : u.base ≡ t.base
  pub same_resource : u.resource ≡ t.resource
  pub same_outside : u.outside ≡ t.outside
  pub same_rows : (row : Option ListedRow) → has_row row u ≡ has_row row t
  pub same_posting : u.posting ≡ t.posting
  pub same_move : u.move ≡ t.move

-- If the changes fit the tables, the answer is right for a store that has all changes or none: it is `true` over the
-- tables without them only if the changes leave the rows the same, and `false` over the tables with them only if there
-- are no changes. None is no answer.
pub record IsRightAnswer (changes : List Change) (db : Database) (answer : Option Bool) : Type 0 where
  pub with_none : (t : Tables) → DeltaFits changes t → Keeps db t → answer ≡ Some true
      → HaveSameRows t (tables_after_delta changes t)
  pub with_all : (t : Tables) → DeltaFits changes t → Keeps db (tables_after_delta changes t) → answer ≡ Some false
      → changes ≡ []
