-- A bulk move by an index moves exactly the postings assigned to the source.
use Rattle.std.proofs.Common.{arith, ◌≡◌, ◌⊎◌, ◌∙◌, inl, inr, ℕ, zero, suc, List, [], ◌∷◌, ◌++◌, map, true, refl, sym}
use Rattle.std.proofs.Common.{ap, subst}
use Rattle.std.proofs.lemmas.Grind.{common_steps}
use Rattle.std.specs.Prelude.{Option, None, Some, slice_get, slice_set}
use Rattle.std.specs.Option.{IsSomeAnd}
use Rattle.std.specs.Ordering.{nat_cmp}
use Rattle.std.specs.BTreeSet.{BTreeSet, contains}
use Rattle.std.proofs.lemmas.Option.{same_Some}
use Rattle.thes_tables.specs.declared.rows.PostingRow.{PostingRow}
use Rattle.thes_tables.specs.Tables.{IsIn}
use Rattle.thes_tables.specs.Rows.{row_after_move_all}
use Rattle.thes_store.proofs.IndexPositionLemmas.{in_keys}
use Rattle.thes_store.specs.declared.position_sets.PositionSets.{PositionSets}
use Rattle.thes_store.specs.Covers.{IndexesByPlace}
use Rattle.thes_store.specs.RowsAtPositions.{rows_after_change_at, rows_after_changes_at}
use Rattle.thes_base.proofs.NumberedLemmas.{slice_set_cases}

module _ {A : Type 0} (f : A → A) where
  pub changed_append : (positions more : List ℕ) (rows : List A) → rows_after_changes_at f (positions ++ more) rows
      ≡ rows_after_changes_at f more (rows_after_changes_at f positions rows)
  changed_append [] more rows = refl
  changed_append (i ∷ positions) more rows = changed_append positions more (rows_after_change_at f i rows)

  -- The function leaves each row outside these positions unchanged.
  abbrev StayBut : List ℕ → List A → Type 0
  StayBut positions rows = (i : ℕ) (row : A) → slice_get rows i ≡ Some row → (f row ≡ row) ⊎ IsIn i positions

  all_stay : (rows : List A) → StayBut [] rows → map f rows ≡ rows
  all_stay [] stay = refl
  all_stay (x ∷ rows) stay = (λ j. here (stay 0 x refl) j ∷ all_stay rows (λ i row e. stay (suc i) row e) j)
    where
      here : (f x ≡ x) ⊎ ⊥ → f x ≡ x
      here (inl same) = same
      here (inr never) = absurd never

  module _ (again : (row : A) → f (f row) ≡ f row) where
    map_set : (rows : List A) (i : ℕ) (row : A) → slice_get rows i ≡ Some row → map f (slice_set rows i (f row))
        ≡ map f rows
    map_set [] i row e = refl
    map_set (x ∷ rows) zero row e = ap (λ y. y ∷ map f rows) (again row ∙ ap f (sym (same_Some _ _ e)))
    map_set (x ∷ rows) (suc i) row e = ap (λ l. f x ∷ l) (map_set rows i row e)

    map_with : (i : ℕ) (rows : List A) → map f (rows_after_change_at f i rows) ≡ map f rows
    map_with i rows = grind (arith, common_steps, map_set)

    -- After the row at a position is changed, the function changes only rows at the remaining positions.
    stay_with : (i : ℕ) (positions : List ℕ) (rows : List A) → StayBut (i ∷ positions) rows
        → StayBut positions (rows_after_change_at f i rows)
    stay_with i positions rows stay = grind (arith, common_steps, slice_set_cases, again)

    -- Changing the rows at these positions changes all rows, if the positions include each row that the function
    -- changes.
    pub all_changed_at : (positions : List ℕ) (rows : List A) → StayBut positions rows → rows_after_changes_at f
        positions rows
        ≡ map f rows
    all_changed_at [] rows stay = sym (all_stay rows stay)
    all_changed_at (i ∷ positions) rows stay = all_changed_at positions (rows_after_change_at f i rows)
        (stay_with i positions rows stay) ∙ map_with i rows

moved_again : (source target : ℕ) (row : PostingRow) → row_after_move_all source target
    (row_after_move_all source target row) ≡ row_after_move_all source target row
moved_again source target row = grind (arith, common_steps)

moved_or_stays : (source target : ℕ) (row : PostingRow) → (row_after_move_all source target row ≡ row)
    ⊎ (row.place ≡ source)
moved_or_stays source target row = grind (arith, common_steps)

pub moved_at_positions : (index : PositionSets) (source target : ℕ) (set : BTreeSet ℕ) (rows : List PostingRow)
    → IndexesByPlace index rows → slice_get index.sets.items source ≡ Some set → rows_after_changes_at
    (row_after_move_all source target) set.keys rows ≡ map (row_after_move_all source target) rows
moved_at_positions index source target set rows standing found =
    all_changed_at (row_after_move_all source target) (moved_again source target) set.keys rows
    (λ i row at. elim (moved_or_stays source target row) [
      | inl stays ↦ inl stays
      | inr here ↦ inr
          (in_keys set.keys i (subst (λ (o : Option (BTreeSet ℕ)). IsSomeAnd o (λ s. contains nat_cmp s i ≡ true))
          found (subst (λ n. IsSomeAnd (slice_get index.sets.items n) (λ s. contains nat_cmp s i ≡ true)) here
          (standing i row at))))
    ])

pub moved_none : (index : PositionSets) (source target : ℕ) (rows : List PostingRow) → IndexesByPlace index rows
    → slice_get index.sets.items source ≡ None → rows ≡ map (row_after_move_all source target) rows
moved_none index source target rows standing none =
    all_changed_at (row_after_move_all source target) (moved_again source target) [] rows
    (λ i row at. elim (moved_or_stays source target row) [
      | inl stays ↦ inl stays
      | inr here ↦ absurd (subst (λ (o : Option (BTreeSet ℕ)). IsSomeAnd o (λ s. contains nat_cmp s i ≡ true)) none
          (subst (λ n. IsSomeAnd (slice_get index.sets.items n) (λ s. contains nat_cmp s i ≡ true)) here
          (standing i row at)))
    ])
