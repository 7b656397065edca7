-- Each change of a list with gaps keeps the list's index correct, and keeps its reserved memory.
use Rattle.std.proofs.lemmas.Grind.{common_steps}
use Rattle.std.proofs.Common.{◌≡◌, ◌+◌, ◌<◌, ◌∙◌, ℕ, zero, suc, List, [], ◌∷◌, ◌++◌, length, Bool, true, false, cond}
use Rattle.std.proofs.Common.{refl, sym, ap, subst, arith, ⊎_elim}
use Rattle.std.specs.Prelude.{Option, None, Some, slice_get, slice_set, filter, not, vec_len}
use Rattle.std.specs.List.{filter_map}
use Rattle.std.specs.Vec.{vec_capacity}
use Rattle.std.proofs.lemmas.Bool.{cases_Bool}
use Rattle.std.proofs.lemmas.List.Elements.{filter_map-append}
use Rattle.std.proofs.lemmas.Option.{same_Some, slice_get_within}
use Rattle.thes_base.proofs.NumberedLemmas.{push_cases, slice_set_cases}
use Rattle.thes_tables.specs.Tables.{IsIn}
use Rattle.thes_store.proofs.PositionListLemmas.{in_position_list}
use Rattle.thes_store.specs.declared.slots.Slots.{Slots}
use Rattle.thes_store.specs.PositionLists.{listed_positions, HasListedPosition, KeepsOtherPositions}
use Rattle.thes_store.specs.RowsAtPositions.{rows_after_change_at, KeepsRoom}
use Rattle.thes_store.specs.Slots.{rows_in, AreIndexedBy, IsReady, is_same_row}

module _ {A : Type 0} where
  abbrev rows_without_gaps : List (Option A) → List A
  rows_without_gaps slots = filter_map (λ slot. slot) slots

  pub rows_pushed : (slots : List (Option A)) (x : A) → rows_without_gaps (slots ++ Some x ∷ [])
      ≡ rows_without_gaps slots ++ x ∷ []
  rows_pushed slots x = filter_map-append (λ (slot : Option A). slot) slots (Some x ∷ [])

  module _ (number : A → ℕ) (old new : Slots A) where
    -- An appended row is indexed if its position was inserted before.
    pub found_pushed : (x : A) → new.rows.items ≡ old.rows.items ++ Some x ∷ [] → new.index ≡ old.index
        → HasListedPosition old.index (number x) (vec_len old.rows) → AreIndexedBy number old → AreIndexedBy number new
    found_pushed x items index at found i row e =
        let p = push_cases old.rows.items (Some x) (Some row) (suc i) (sym (ap (λ l. slice_get l i) items) ∙ e) in
        grind (arith, common_steps)

    pub ready_pushed : (x : A) (rest : List A) → new.index ≡ old.index → vec_len new.rows ≡ vec_len old.rows + 1
        → vec_capacity new.rows ≡ vec_capacity old.rows → IsReady number old (x ∷ rest) → IsReady number new rest
    ready_pushed x rest index len capacity ready =
        record {
          room = let r = ready.room in omega (arith, r, len, capacity);
          expected = λ k row e. let old_position = ready.expected (suc k) row e in grind (arith, common_steps);
        }

    -- The other rows stay indexed after one is removed.
    pub found_emptied : (i : ℕ) → new.rows.items ≡ rows_after_change_at (λ slot. None) i old.rows.items
        → KeepsOtherPositions i old.index new.index → AreIndexedBy number old → AreIndexedBy number new
    found_emptied i items keeps found j row e = grind (arith, common_steps, slice_set_cases)

    pub ready_emptied : (i : ℕ) (rest : List A) → i < vec_len old.rows → KeepsRoom old.rows new.rows
        → KeepsOtherPositions i old.index new.index → IsReady number old rest → IsReady number new rest
    ready_emptied i rest position_in_bounds room keeps ready = grind (arith, common_steps)

  module _ (p : A → Bool) where
    -- A gap in place of a row that fails the test leaves the passing rows unchanged.
    pub filter_emptied : (slots : List (Option A)) (i : ℕ) (x : A) → slice_get slots i ≡ Some (Some x) → p x ≡ false
        → filter p (rows_without_gaps (slice_set slots i None)) ≡ filter p (rows_without_gaps slots)
    filter_emptied [] i x e fails = absurd (cc)
    filter_emptied (slot ∷ slots) zero x e fails = grind (arith, common_steps, same_Some)
    filter_emptied (None ∷ slots) (suc i) x e fails = filter_emptied slots i x e fails
    filter_emptied (Some y ∷ slots) (suc i) x e fails =
        ap (λ l. cond (p y) (y ∷ l) l) (filter_emptied slots i x e fails)

    pub filter_whole : (slots : List (Option A)) → ((i : ℕ) (x : A) → slice_get slots i ≡ Some (Some x) → p x ≡ true)
        → filter p (rows_without_gaps slots) ≡ rows_without_gaps slots
    filter_whole [] pass = refl
    filter_whole (None ∷ slots) pass = filter_whole slots (λ i x e. pass (suc i) x e)
    filter_whole (Some y ∷ slots) pass =
        ap (λ b. cond b (y ∷ filter p (rows_without_gaps slots)) (filter p (rows_without_gaps slots))) (pass 0 y refl)
        ∙ ap (λ l. y ∷ l) (filter_whole slots (λ i x e. pass (suc i) x e))

  pub fewer_emptied : (slots : List (Option A)) (i : ℕ) (x : A) → slice_get slots i ≡ Some (Some x)
      → length (rows_without_gaps (slice_set slots i None)) < length (rows_without_gaps slots)
  fewer_emptied [] i x e = absurd (cc)
  fewer_emptied (slot ∷ slots) zero x e =
      subst (λ (o : Option A). length (rows_without_gaps slots) < length (rows_without_gaps (o ∷ slots)))
      (sym (same_Some _ _ e)) (omega arith)
  fewer_emptied (None ∷ slots) (suc i) x e = fewer_emptied slots i x e
  fewer_emptied (Some y ∷ slots) (suc i) x e = let h = fewer_emptied slots i x e in omega (arith, h)

  module _ (same : A → A → Bool) (row : A) where
    pub row_there : (o : Option (Option A)) → is_same_row same o row ≡ true → (x : A) × (o ≡ Some (Some x))
        × (same x row ≡ true)
    row_there o e = grind (arith, common_steps)

    pub differs : (slots : List (Option A)) → ((i : ℕ) → is_same_row same (slice_get slots i) row ≡ false)
        → (i : ℕ) (x : A) → slice_get slots i ≡ Some (Some x) → not (same x row) ≡ true
    differs slots apart i x e = ap not (sym (ap (λ o. is_same_row same o row) e) ∙ apart i)

    module _ (number : A → ℕ) (agree : (x y : A) → same x y ≡ true → number x ≡ number y) (s : Slots A)
        (found : AreIndexedBy number s) where
      found_same : (position : ℕ) → is_same_row same (slice_get s.rows.items position) row ≡ true
          → HasListedPosition s.index (number row) position
      found_same position e = let h = row_there (slice_get s.rows.items position) e in
          subst (λ n. HasListedPosition s.index n position) (agree h.0 row h.2) (found position h.0 h.1)

      pub none_there : ((position : ℕ) → IsIn position (listed_positions s.index (number row))
          → is_same_row same (slice_get s.rows.items position) row ≡ false)
          → (position : ℕ) → is_same_row same (slice_get s.rows.items position) row ≡ false
      none_there apart position = ⊎_elim
          (λ (hit : is_same_row same (slice_get s.rows.items position) row ≡ true).
          apart position (in_position_list s.index (number row) position (found_same position hit)))
          (λ (miss : is_same_row same (slice_get s.rows.items position) row ≡ false). miss)
          (cases_Bool (is_same_row same (slice_get s.rows.items position) row))

    -- Assumes that the row at this position is equal to the given one, and is removed.
    module _ (old new : Slots A) (position : ℕ) (held : is_same_row same (slice_get old.rows.items position) row ≡ true)
        (emptied : new.rows.items ≡ rows_after_change_at (λ slot. None) position old.rows.items) where
      h : (x : A) × (slice_get old.rows.items position ≡ Some (Some x)) × (same x row ≡ true)
      h = row_there (slice_get old.rows.items position) held

      items : new.rows.items ≡ slice_set old.rows.items position None
      items = grind (arith, common_steps, emptied, h)

      pub fewer_rows : length (rows_in new) < length (rows_in old)
      fewer_rows = grind (arith, common_steps, fewer_emptied, h, items)

      pub others_stay : filter (λ x. not (same x row)) (rows_in new) ≡ filter (λ x. not (same x row)) (rows_in old)
      others_stay = grind (arith, common_steps, filter_emptied, h, items)

      pub position_in_bounds : position < vec_len old.rows
      position_in_bounds = grind (arith, common_steps, slice_get_within, h)

    -- If no slot has a row equal to the given one, the rows are those that differ from it.
    pub none_left : (s : Slots A) → ((position : ℕ) → is_same_row same (slice_get s.rows.items position) row ≡ false)
        → rows_in s ≡ filter (λ x. not (same x row)) (rows_in s)
    none_left s apart = sym (filter_whole (λ x. not (same x row)) s.rows.items (differs s.rows.items apart))
