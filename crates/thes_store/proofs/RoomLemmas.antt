-- Tables that have room for the rows of a list of changes have room for those of its first change.
use Rattle.std.proofs.lemmas.Grind.{common_steps}
use Rattle.std.proofs.Common.{◌≡◌, ◌+◌, ◌<◌, ◌≤◌, ◌∙◌, ℕ, List, [], ◌∷◌, ◌++◌, length, drop, get_or, refl, sym, ap}
use Rattle.std.proofs.Common.{arith, subst}
use Rattle.std.specs.Prelude.{Option, None, Some, vec_len}
use Rattle.std.specs.List.{cons_option}
use Rattle.std.specs.Vec.{vec_capacity}
use Rattle.std.proofs.lemmas.List.{drop_more}
use Rattle.thes_tables.specs.declared.change.Change.{Change}
use Rattle.thes_store.specs.declared.slots.Slots.{Slots}
use Rattle.thes_store.specs.declared.tables.MemTables.{MemTables}
use Rattle.thes_store.specs.AddedRow.{rows_added_by, added_resource, added_outside, added_label, inserted_link}
use Rattle.thes_store.specs.AddedRow.{added_hier, added_posting, added_move, changed_label}
use Rattle.thes_store.specs.Numbers.{owner_of, indexed_end_of, narrower_end_of}
use Rattle.thes_store.specs.Room.{HasRoomForRows, IsReadyForChanges}
use Rattle.thes_store.specs.Slots.{IsReady}

module _ {A : Type 0} where
  count_first : (o : Option A) (rest : List A) → length (cons_option o []) ≤ length (cons_option o rest)
  count_first None rest = omega arith
  count_first (Some x) rest = omega arith

  ready_first : (number : A → ℕ) (s : Slots A) (o : Option A) (rest : List A) → IsReady number s (cons_option o rest)
      → IsReady number s (cons_option o [])
  ready_first number s o rest ready = grind (arith, common_steps)

  -- A list that begins with an optional value and then others also begins with the optional value alone.
  begins_first : (items : List A) (o : Option A) (more : List A) → (rest : List A)
      × (items ≡ cons_option o more ++ rest)
      → (rest : List A) × (items ≡ cons_option o [] ++ rest)
  begins_first items None more begins = (items, refl)
  begins_first items (Some x) more begins = (more ++ begins.0, begins.1)

  pub drop_none : (xs : List A) → drop 0 xs ≡ xs
  drop_none [] = refl
  drop_none (x ∷ xs) = refl

fewer_fit : (len more all capacity : ℕ) → more ≤ all → len + all ≤ capacity → len + more ≤ capacity
fewer_fit len more all capacity less fits = omega (arith, less, fits)

pub room_first : (m : MemTables) (c : Change) (rest : List Change) → HasRoomForRows (c ∷ rest) m
    → HasRoomForRows (c ∷ []) m
room_first m c rest room = record {
  resource = fewer_fit (vec_len m.resource) _ _ (vec_capacity m.resource)
      (count_first (added_resource c) (rows_added_by added_resource rest)) room.resource;
  outside = fewer_fit (vec_len m.outside) _ _ (vec_capacity m.outside)
      (count_first (added_outside c) (rows_added_by added_outside rest)) room.outside;
  label = ready_first owner_of m.label (added_label c) (rows_added_by added_label rest) room.label;
  link = ready_first indexed_end_of m.link (inserted_link c) (rows_added_by inserted_link rest) room.link;
  hier = ready_first narrower_end_of m.hier (added_hier c) (rows_added_by added_hier rest) room.hier;
  posting = fewer_fit (vec_len m.posting) _ _ (vec_capacity m.posting)
      (count_first (added_posting c) (rows_added_by added_posting rest)) room.posting;
  steps = fewer_fit (vec_len m.steps) _ _ (vec_capacity m.steps)
      (count_first (added_move c) (rows_added_by added_move rest)) room.steps;
  label_copies = begins_first m.label_copies.items (changed_label c) (rows_added_by changed_label rest)
      room.label_copies;
}

-- Tables that are ready for the changes that are left are ready for the next one and those after it.
pub ready_next : (m : MemTables) (all : List Change) (i : ℕ) (c : Change) → i < length all → c ≡ get_or all i c
    → IsReadyForChanges (drop i all) m → IsReadyForChanges (c ∷ drop (i + 1) all) m
ready_next m all i c lt is ready = subst (λ l. IsReadyForChanges l m) (drop_more all i c lt
    ∙ ap (λ x. x ∷ drop (i + 1) all) (sym is)) ready
