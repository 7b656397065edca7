-- The index of live concepts by scheme, and its changes. If no scheme is given, nothing changes.
use Rattle.std.specs.Prelude.{ℕ, Option, None, Some}
use Rattle.std.specs.Ordering.{nat_cmp}
use Rattle.std.specs.BTreeMap.{is_at}
use Rattle.std.specs.BTreeSet.{insert_key}
use Rattle.std.specs.Set.{remove_key}
use Rattle.thes_lists.specs.declared.lists.Lists.{Lists}
use Rattle.thes_lists.specs.Lists.{listed_at, HasSpare, HaveSameValues, ChangesOnlyAt}

-- The scheme's list has room for one more number without allocating; true if no scheme is given.
abbrev pub HasRoomIn : Lists ℕ → Option ℕ → Type 0
HasRoomIn concepts None = Unit {0}
HasRoomIn concepts (Some scheme) = HasSpare concepts scheme

-- The new index is the old one with the number inserted in the scheme's list.
abbrev pub ConceptListsAfterInsert : Lists ℕ → Lists ℕ → Option ℕ → ℕ → Type 0
ConceptListsAfterInsert old new None n = HaveSameValues old new
ConceptListsAfterInsert old new (Some scheme) n =
    ChangesOnlyAt old new scheme (insert_key nat_cmp (listed_at old scheme) n)

-- The new index is the old one without the number in the scheme's list.
abbrev pub ConceptListsAfterRemove : Lists ℕ → Lists ℕ → Option ℕ → ℕ → Type 0
ConceptListsAfterRemove old new None n = HaveSameValues old new
ConceptListsAfterRemove old new (Some scheme) n =
    ChangesOnlyAt old new scheme (remove_key (is_at (nat_cmp n)) (listed_at old scheme))
