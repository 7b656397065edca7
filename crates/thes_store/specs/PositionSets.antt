-- The positions that an index of sets has under each number.
use Rattle.std.specs.Prelude.{◌≡◌, ℕ, List, true, IsSome, slice_get}
use Rattle.std.specs.Option.{IsSomeAnd}
use Rattle.std.specs.Ordering.{nat_cmp}
use Rattle.std.specs.List.Sorted.{IsStrictlySortedBy}
use Rattle.std.specs.BTreeSet.{contains}
use Rattle.thes_tables.specs.Tables.{IsIn}
use Rattle.thes_store.specs.declared.position_sets.PositionSets.{PositionSets}

-- The index has this position under the number.
abbrev pub HasPosition : PositionSets → ℕ → ℕ → Type 0
HasPosition index n position = IsSomeAnd (slice_get index.sets.items n) (λ set. contains nat_cmp set position ≡ true)

-- The index has a set of positions under the number, which may be empty.
abbrev pub HasSet : PositionSets → ℕ → Type 0
HasSet index n = IsSome (slice_get index.sets.items n)

-- The new index has each position that the old one has, under the same number.
abbrev pub KeepsPositions : PositionSets → PositionSets → Type 0
KeepsPositions old new = (n position : ℕ) → HasPosition old n position → HasPosition new n position

-- The list has all positions under the number, in ascending order.
pub record ArePositions (index : PositionSets) (n : ℕ) (positions : List ℕ) : Type 0 where
  pub rises : IsStrictlySortedBy nat_cmp positions
  pub complete : (position : ℕ) → HasPosition index n position → IsIn position positions
