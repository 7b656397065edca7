-- The positions that an index of short lists (`PositionLists`) has under each number.
use Rattle.std.specs.Prelude.{◌≡◌, ◌≢◌, ◌==◌, ℕ, List, [], Bool, true, IsSome, slice_get}
use Rattle.std.specs.List.{list_any}
use Rattle.std.specs.Option.{IsSomeAnd, unwrap_or}
use Rattle.thes_store.specs.declared.position_lists.PositionLists.{PositionLists}

-- The positions under the number; none if it has no list.
abbrev pub listed_positions : PositionLists → ℕ → List ℕ
listed_positions index n = unwrap_or (slice_get index.lists.items n) []

-- Whether the position is in the list.
abbrev pub has_position : ℕ → List ℕ → Bool
has_position position positions = list_any (λ q. q == position) positions

-- The index has this position under the number.
abbrev pub HasListedPosition : PositionLists → ℕ → ℕ → Type 0
HasListedPosition index n position = IsSomeAnd (slice_get index.lists.items n) (λ positions. has_position position
    positions ≡ true)

-- The number has a list of positions, which may be empty.
abbrev pub HasPositionList : PositionLists → ℕ → Type 0
HasPositionList index n = IsSome (slice_get index.lists.items n)

-- The new index has each position that the old one has, under the same number.
abbrev pub KeepsListedPositions : PositionLists → PositionLists → Type 0
KeepsListedPositions old new = (n position : ℕ) → HasListedPosition old n position → HasListedPosition new n position

-- The new index has each position other than `gone` that the old one has, under the same number.
abbrev pub KeepsOtherPositions : ℕ → PositionLists → PositionLists → Type 0
KeepsOtherPositions gone old new = (n position : ℕ) → position ≢ gone → HasListedPosition old n position
    → HasListedPosition new n position
