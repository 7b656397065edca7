-- Proves that changing the element at a position changes exactly the element whose number belongs to that position.
use Rattle.std.proofs.lemmas.Grind.{common_steps}
use Rattle.std.proofs.Common.{arith, ◌≡◌, ℕ, zero, suc, List, [], ◌∷◌, ◌<◌, ◌+◌, ◌==◌, map, slice_get, slice_set}
use Rattle.std.proofs.Common.{Option, Some, None, Bool, if◌then◌else◌, refl, sym}
use Rattle.thes_base.specs.declared.data.Resource.{Resource}
use Rattle.thes_base.specs.Changes.{resource_after_death, resources_after_death}
use Rattle.thes_tables.specs.declared.rows.PostingRow.{PostingRow}
use Rattle.thes_tables.specs.Rows.{with_posting}
use Rattle.thes_sql.specs.StoredRows.{ArePostingsNumbered, numbered_from}

module _ {A : Type 0} (f : A → A) where
  abbrev pub change_if_at_number : ℕ → ℕ × A → ℕ × A
  change_if_at_number n row = if row.0 == n then (row.0, f row.1) else row

  none_there : (n first : ℕ) (xs : List A) → n < first → map (change_if_at_number n) (numbered_from first xs)
      ≡ numbered_from
      first xs
  none_there n first [] lt = refl
  none_there n first (x ∷ xs) lt = grind (arith, common_steps, none_there n (first + 1) xs)

  -- The list after the element at a position is changed.
  abbrev pub list_changed_at : ℕ → List A → List A
  list_changed_at i xs = elim (slice_get xs i) [ None ↦ xs | Some x ↦ slice_set xs i (f x) ]

  changed_later : (i : ℕ) (x : A) (xs : List A) → list_changed_at (suc i) (x ∷ xs) ≡ x ∷ list_changed_at i xs
  changed_later i x xs = grind (arith, common_steps)

  -- Changing the element at position `i` changes exactly the element with number `first + i`.
  pub numbered_change_at : (i first : ℕ) (xs : List A) → numbered_from first (list_changed_at i xs)
      ≡ map (change_if_at_number (first + i))
      (numbered_from first xs)
  numbered_change_at i first [] = refl
  numbered_change_at zero first (x ∷ xs) = grind (arith, common_steps, none_there)
  numbered_change_at (suc i) first (x ∷ xs) =
      grind (arith, common_steps, changed_later, numbered_change_at i (first + 1) xs)

pub dead_is : (n : ℕ) (by : Option ℕ) (rs : List Resource) → numbered_from 1 (resources_after_death n by rs) ≡ map
    (change_if_at_number (resource_after_death by) n) (numbered_from 1 rs)
dead_is zero by rs = sym (none_there (resource_after_death by) 0 1 rs (omega arith))
dead_is (suc n) by rs =
    let all = numbered_change_at (resource_after_death by) n 1 rs in grind (arith, common_steps)

-- The posting, changed if it has this number.
module _ (f : PostingRow → PostingRow) where
  abbrev pub change_if_number : ℕ → PostingRow → PostingRow
  change_if_number n x = if x.number == n then f x else x

  none_of : (n first : ℕ) (rows : List PostingRow) → ArePostingsNumbered first rows → n < first
      → map (change_if_number n) rows ≡ rows
  none_of n first [] num lt = refl
  none_of n first (r ∷ rows) num lt = grind (arith, common_steps, none_of n (first + 1) rows num.1)

  -- Changing the posting at position `i` changes exactly the posting with number `first + i`.
  one_of : (i first : ℕ) (rows : List PostingRow) → ArePostingsNumbered first rows
      → list_changed_at f i rows ≡ map (change_if_number (first + i)) rows
  one_of i first [] num = refl
  one_of zero first (r ∷ rows) num = grind (arith, common_steps, none_of)
  one_of (suc i) first (r ∷ rows) num = grind (arith, common_steps, changed_later, one_of i (first + 1) rows num.1)

  pub posting_is : (n : ℕ) (rows : List PostingRow) → ArePostingsNumbered 1 rows
      → with_posting f n rows ≡ map (change_if_number n) rows
  posting_is zero rows num = sym (none_of 0 1 rows num (omega arith))
  posting_is (suc n) rows num =
      let all = one_of n 1 rows num in grind (arith, common_steps)

  pub still_numbered : (p : PostingRow → Bool) → ((x : PostingRow) → (f x).number ≡ x.number)
      → (first : ℕ) (rows : List PostingRow) → ArePostingsNumbered first rows
      → ArePostingsNumbered first (map (λ x. if p x then f x else x) rows)
  still_numbered p keeps first [] num = tt
  still_numbered p keeps first (r ∷ rows) num =
      grind (arith, common_steps, keeps, still_numbered p keeps (first + 1) rows num.1)
