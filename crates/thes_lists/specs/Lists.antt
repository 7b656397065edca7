-- The values listed under each number, and the room in the lists.
use Rattle.std.specs.Prelude.{◌≡◌, ◌≢◌, ◌<◌, List, [], IsSome, vec_len, slice_get, flat_map}
use Rattle.thes_base.specs.Types.{Number}
use Rattle.std.specs.Option.{IsSomeAnd, option_map_or}
use Rattle.std.specs.Vec.{vec_capacity}
use Rattle.std.specs.List.Sorted.{IsStrictlySortedBy}
use Rattle.std.specs.declared.cmp.Ordering.{Ordering}
use Rattle.thes_base.specs.Listing.{IsListing}
use Rattle.thes_lists.specs.declared.lists.Lists.{Lists}

module _ {A : Type 0} where
  -- The values listed under the number; none if it has no list.
  abbrev pub listed_at : Lists A → Number → List A
  listed_at lists n = option_map_or (λ v. v.items) (slice_get lists.lists.items n) []

  -- The values of all lists, those of the lesser numbers first.
  abbrev pub all_listed : Lists A → List A
  all_listed lists = flat_map (λ v. v.items) lists.lists.items

  -- The number has a list, perhaps an empty one.
  abbrev pub HasList : Lists A → Number → Type 0
  HasList lists n = IsSome (slice_get lists.lists.items n)

  -- The number has a list with room for one more value.
  abbrev pub HasSpare : Lists A → Number → Type 0
  HasSpare lists n = IsSomeAnd (slice_get lists.lists.items n) (λ v. vec_len v < vec_capacity v)

  -- Both indexes have the same values under each number.
  abbrev pub HaveSameValues : Lists A → Lists A → Type 0
  HaveSameValues old new = (n : Number) → listed_at new n ≡ listed_at old n

  -- Each list with room for one more value keeps that room.
  abbrev pub KeepsSpare : Lists A → Lists A → Type 0
  KeepsSpare old new = (n : Number) → HasSpare old n → HasSpare new n

  -- The values under number n are now `values`, and those under other numbers are unchanged.
  pub record ChangesOnlyAt (old new : Lists A) (n : Number) (values : List A) : Type 0 where
    pub here : listed_at new n ≡ values
    pub others : (m : Number) → m ≢ n → listed_at new m ≡ listed_at old m

  module _ (cmp : A → A → Ordering) where
    -- The values under each number are strictly increasing.
    abbrev pub AreAllRising : Lists A → Type 0
    AreAllRising lists = (n : Number) → IsStrictlySortedBy cmp (listed_at lists n)

    -- The values under each number are exactly those with the number's property, in ascending order.
    abbrev pub AreListings : (Number → A → Type 0) → Lists A → Type 0
    AreListings P lists = (n : Number) → IsListing cmp (P n) (listed_at lists n)
