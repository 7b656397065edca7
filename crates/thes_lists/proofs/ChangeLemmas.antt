-- The effects of writing a list in place of the one that a number has.
use Rattle.std.proofs.Common.{ltb, ◌≡◌, ◌≢◌, ◌<◌, ◌≤◌, length, set, get_or, inl, inr, ℕ, true, [], Vec, Global, sym}
use Rattle.std.proofs.Common.{ap, subst, ◌∙◌, arith}
use Rattle.std.specs.Prelude.{Some, vec_len, slice_get}
use Rattle.std.specs.Option.{IsSomeAnd, option_map_or}
use Rattle.std.specs.Vec.{vec_capacity, with_item}
use Rattle.std.proofs.lemmas.Bool.{cases_eq, cases_lt, ltb-true}
use Rattle.std.proofs.lemmas.Grind.{get_or-set_at}
use Rattle.std.proofs.lemmas.List.{get_or-set_other, length-set}
use Rattle.std.proofs.lemmas.Option.{slice_get_past, slice_get-get_or}
use Rattle.thes_lists.specs.declared.lists.Lists.{Lists}
use Rattle.thes_lists.specs.Lists.{listed_at, HasSpare, HaveSameValues, KeepsSpare, ChangesOnlyAt}

abbrev IsRoomy : {A : Type 0} → Vec A Global → Type 0
IsRoomy v = vec_len v < vec_capacity v

module _ {A : Type 0} (old new : Lists A) (n : ℕ) (v : Vec A Global) (written : slice_get new.lists.items n ≡ Some v)
    (elsewhere : (m : ℕ) → m ≢ n → slice_get new.lists.items m ≡ slice_get old.lists.items m) where
  changes_written : ChangesOnlyAt old new n v.items
  changes_written = record {
    here = ap (λ o. option_map_or (λ (w : Vec A Global). w.items) o []) written;
    others = λ m apart. ap (λ o. option_map_or (λ (w : Vec A Global). w.items) o []) (elsewhere m apart);
  }

  rooms_elsewhere : (m : ℕ) → m ≢ n → HasSpare old m → HasSpare new m
  rooms_elsewhere m apart room = subst (λ o. IsSomeAnd o IsRoomy) (sym (elsewhere m apart)) room

  -- Writing a list with the same values leaves the values under all numbers unchanged.
  same_written : v.items ≡ listed_at old n → HaveSameValues old new
  same_written same m = elim (cases_eq m n) [
    | inl here ↦ ap (listed_at new) here ∙ changes_written.here ∙ same ∙ ap (listed_at old) (sym here)
    | inr apart ↦ changes_written.others m apart
  ]

  -- Each list keeps its room for one more value, if the written list has such room whenever the replaced one did.
  rooms_written : (HasSpare old n → IsRoomy v) → KeepsSpare old new
  rooms_written keeps m room = elim (cases_eq m n) [
    | inl here ↦ subst (HasSpare new) (sym here)
        (subst (λ o. IsSomeAnd o IsRoomy) (sym written) (keeps (subst (HasSpare old) here room)))
    | inr apart ↦ rooms_elsewhere m apart room
  ]

  -- Assumes that the written list replaces the list `before` at number n.
  module _ (before : Vec A Global) (was : Some before ≡ slice_get old.lists.items n) where
    same_grown : v.items ≡ before.items → HaveSameValues old new
    same_grown same = same_written (same ∙ ap (λ o. option_map_or (λ (w : Vec A Global). w.items) o []) was)

    rooms_grown : vec_len v ≡ vec_len before → vec_capacity before ≤ vec_capacity v → KeepsSpare old new
    rooms_grown len capacity = rooms_written (λ room. more (subst (λ o. IsSomeAnd o IsRoomy) (sym was) room))
      where
        more : IsRoomy before → IsRoomy v
        more room = omega arith

-- Assumes that number n has a list, and that the list v replaces it.
module _ {A : Type 0} (lists : Lists A) (n i : ℕ) (at : i ≡ n) (found : ltb i (length lists.lists.items) ≡ true)
    (v : Vec A Global) where
  inside : i < length lists.lists.items
  inside = ltb-true i (length lists.lists.items) found

  abbrev wrote : Lists A
  wrote = record lists { lists = with_item lists.lists i v }

  wrote_here : slice_get wrote.lists.items n ≡ Some v
  wrote_here =
      slice_get-get_or (set lists.lists.items i v) n v (omega (arith, at, inside, length-set lists.lists.items i v))
      ∙ ap Some (get_or-set_at lists.lists.items i n v v (sym at) inside)

  wrote_elsewhere : (m : ℕ) → m ≢ n → slice_get wrote.lists.items m ≡ slice_get lists.lists.items m
  wrote_elsewhere m apart = elim (cases_lt m (length lists.lists.items)) [
    | inl within ↦
        slice_get-get_or (set lists.lists.items i v) m v (omega (arith, within, length-set lists.lists.items i v))
        ∙ ap Some (get_or-set_other lists.lists.items i m v v (λ same. apart (same ∙ at)))
        ∙ sym (slice_get-get_or lists.lists.items m v within)
    | inr past ↦
        slice_get_past (set lists.lists.items i v) m (omega (arith, past, length-set lists.lists.items i v))
        ∙ sym (slice_get_past lists.lists.items m past)
  ]

  pub changes_at : ChangesOnlyAt lists wrote n v.items
  changes_at = changes_written lists wrote n v wrote_here wrote_elsewhere

  pub rooms_stay : (m : ℕ) → m ≢ n → HasSpare lists m → HasSpare wrote m
  rooms_stay = rooms_elsewhere lists wrote n v wrote_here wrote_elsewhere

  -- Assumes that `before` is the list that v replaces.
  module _ (before : Vec A Global) (is : before ≡ get_or lists.lists.items i before) where
    was_there : Some before ≡ slice_get lists.lists.items n
    was_there = ap Some is ∙ sym (slice_get-get_or lists.lists.items i before inside)
        ∙ ap (slice_get lists.lists.items) at

    pub was_listed : listed_at lists n ≡ before.items
    was_listed = ap (λ o. option_map_or (λ (w : Vec A Global). w.items) o []) (sym was_there)

    pub same_reserved : v.items ≡ before.items → HaveSameValues lists wrote
    same_reserved = same_grown lists wrote n v wrote_here wrote_elsewhere before was_there

    pub rooms_reserved : vec_len v ≡ vec_len before → vec_capacity before ≤ vec_capacity v → KeepsSpare lists wrote
    rooms_reserved = rooms_grown lists wrote n v wrote_here wrote_elsewhere before was_there
