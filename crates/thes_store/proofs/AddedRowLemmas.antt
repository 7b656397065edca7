-- The rows that changes insert, counted change by change.
use Rattle.std.proofs.lemmas.Grind.{common_steps}
use Rattle.std.proofs.Common.{◌≡◌, ◌+◌, ◌<◌, ◌≤◌, ◌∙◌, ℕ, suc, List, [], ◌∷◌, ◌++◌, length, true, false, take, get_or}
use Rattle.std.proofs.Common.{refl, ap, arith, append-nil, length-append}
use Rattle.std.specs.Prelude.{Option, None, Some, is_some, vec_len}
use Rattle.std.specs.List.{cons_option}
use Rattle.std.proofs.lemmas.List.Elements.{filter_map-append}
use Rattle.thes_base.proofs.NumberedLemmas.{push_cases}
use Rattle.thes_tables.specs.declared.change.Change.{Change}
use Rattle.thes_store.proofs.IndexPositionLemmas.{take_one}
use Rattle.thes_store.specs.declared.slots.Slots.{Slots}
use Rattle.thes_store.specs.AddedRow.{rows_added_by}
use Rattle.thes_store.specs.PositionLists.{HasListedPosition, KeepsListedPositions}
use Rattle.thes_store.specs.Slots.{AreExpected}

module _ {A : Type 0} where
  module _ (added_row : Change → Option A) (changes : List Change) (i : ℕ) (c : Change) (lt : i < length changes)
      (is : c ≡ get_or changes i c) where
    pub more_added : rows_added_by added_row (take (i + 1) changes) ≡ rows_added_by added_row (take i changes)
        ++ rows_added_by added_row (c ∷ [])
    more_added = ap (rows_added_by added_row) (take_one changes i c lt is) ∙ filter_map-append added_row
        (take i changes) (c ∷ [])

    pub count_more : length (rows_added_by added_row (take (i + 1) changes))
        ≡ length (rows_added_by added_row (take i changes)) + length (rows_added_by added_row (c ∷ []))
    count_more = grind (arith, common_steps, more_added, length-append)

  pub count_one : (o : Option A) → is_some o ≡ true → length (cons_option o []) ≡ 1
  count_one None e = absurd (cc)
  count_one (Some x) e = refl

  pub count_none : (o : Option A) → is_some o ≡ false → length (cons_option o []) ≡ 0
  count_none None e = refl
  count_none (Some x) e = absurd (cc)

  pub at_most_one : (o : Option A) → length (cons_option o []) ≤ 1
  at_most_one None = omega arith
  at_most_one (Some x) = omega arith

  -- If the positions of the rows to be appended are indexed, and then the position of one more row, the positions of
  -- the longer list are indexed.
  pub expected_more : (number : A → ℕ) (old new : Slots A) (coming : List A) (o : Option A) → AreExpected number old
      coming → KeepsListedPositions old.index new.index → new.rows ≡ old.rows
      → ((row : A) → o ≡ Some row → HasListedPosition new.index (number row) (vec_len old.rows + length coming))
      → AreExpected number new (coming ++ cons_option o [])
  expected_more number old new coming None expected keeps rows comes k row e =
      let all = append-nil coming in grind (arith, common_steps)
  expected_more number old new coming (Some x) expected keeps rows comes k row e =
      let p = push_cases coming x row (suc k) e in grind (arith, common_steps)

  pub same_len : (old new : Slots A) → new.rows ≡ old.rows → vec_len new.rows ≡ vec_len old.rows
  same_len old new rows = ap (λ (v : _). vec_len v) rows
