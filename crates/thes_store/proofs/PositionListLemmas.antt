-- The positions in the short lists of an index.
use Rattle.std.proofs.Common.{arith, ◌≡◌, ◌≢◌, ◌∙◌, ◌==◌, ◌++◌, ◌∷◌, [], ℕ, List, true, false, inl, ap, refl}
use Rattle.std.proofs.lemmas.Grind.{common_steps}
use Rattle.std.specs.Prelude.{Result, Ok, Err, OnOk, OnErr, filter, not}
use Rattle.thes_tables.specs.Tables.{IsIn}
use Rattle.thes_tables.proofs.RowSetLemmas.{append_left, append_right, in_filter, filter_in}
use Rattle.thes_store.specs.declared.position_lists.PositionLists.{PositionLists}
use Rattle.thes_store.specs.PositionLists.{has_position, listed_positions, HasListedPosition}

pub in_listed : (position : ℕ) (positions : List ℕ) → has_position position positions ≡ true → IsIn position positions
in_listed position [] h = absurd (cc)
in_listed position (q ∷ positions) h = grind (arith, common_steps, in_listed position positions)

listed_in : (position : ℕ) (positions : List ℕ) → IsIn position positions → has_position position positions ≡ true
listed_in position [] h = absurd h
listed_in position (q ∷ positions) h = grind (arith, common_steps, listed_in position positions)

-- A position that the index has is in the list of its number.
pub in_position_list : (index : PositionLists) (n position : ℕ) → HasListedPosition index n position → IsIn position
    (listed_positions index n)
in_position_list index n position h = grind (arith, common_steps, in_listed)

module _ {E : Type 0} (position : ℕ) (old new : List ℕ) where
  pub kept_after_append : (r : Result (Unit {0}) E) → OnOk r (new ≡ old ++ position ∷ []) → OnErr r (new ≡ old)
      → (q : ℕ)
      → has_position q old ≡ true → has_position q new ≡ true
  kept_after_append r ok err q h = grind (arith, common_steps, listed_in, append_left, in_listed)

  pub listed_after_append : (r : Result (Unit {0}) E) → OnOk r (new ≡ old ++ position ∷ [])
      → OnOk r (has_position position new
      ≡ true)
  listed_after_append (Ok u) ok = ap (has_position position) ok
      ∙ listed_in position (old ++ position ∷ []) (append_right position old (position ∷ []) (inl refl))
  listed_after_append (Err e) ok = tt

module _ (position : ℕ) (old new : List ℕ) (is : new ≡ filter (λ q. not (q == position)) old) where
  pub kept_after_removal : (q : ℕ) → q ≢ position → has_position q old ≡ true → has_position q new ≡ true
  kept_after_removal q apart h = grind (arith, common_steps, listed_in, filter_in, in_listed)

  pub gone_after_removal : has_position position new ≡ false
  gone_after_removal =
      let there = in_listed position new in
      let kept = in_filter (λ q. not (q == position)) position old in
      grind (arith, common_steps)
