-- The neighbourhood of an edit: the links near the concepts that it changes. The check of an edit reads only these
-- links, and its cost is bounded by their number.
use Rattle.thes_base.specs.Types.{Number}
use Rattle.std.specs.Prelude.{◌≡◌, ◌⊎◌, List, Bool, Contains}
use Rattle.std.specs.FinSet.{insert}
use Rattle.thes_base.specs.declared.data.Link.{Link}
use Rattle.thes_base.specs.Links.{Links, Holds, HasEnd, IsBelow, IsExactMatch, links_after_merge}

-- An edit to check: a link added in normal form, a merge, or a recheck of the links around a concept, without a change.
pub data EditToCheck : Type 0 where
  Add : (new : Link) → EditToCheck
  Merge : (source target : Number) → EditToCheck
  Recheck : (pivot : Number) → EditToCheck

-- The concept is edited: it is the first end of the added link, the source or target of the merge, or the concept
-- around which the links are rechecked.
abbrev pub IsEdited : EditToCheck → Number → Type 0
IsEdited (Add new) n = n ≡ new.a
IsEdited (Merge source target) n = (n ≡ source) ⊎ (n ≡ target)
IsEdited (Recheck pivot) n = n ≡ pivot

-- The links after the edit, as a set.
abbrev pub links_after_edit : (Number → Bool) → EditToCheck → Links → Links
links_after_edit is_outside (Add new) links = insert links new
links_after_edit is_outside (Merge source target) links = links_after_merge is_outside source target links
links_after_edit is_outside (Recheck pivot) links = links

-- The link was held before the edit, or is added by it.
abbrev pub IsHeldOrNew : EditToCheck → Links → Link → Type 0
IsHeldOrNew (Add new) links l = (l ≡ new) ⊎ Holds links l
IsHeldOrNew (Merge source target) links l = Holds links l
IsHeldOrNew (Recheck pivot) links l = Holds links l

module _ (is_outside : Number → Bool) (edit : EditToCheck) (links : Links) where
  -- The link is held after the edit.
  abbrev IsHeldAfterEdit : Link → Type 0
  IsHeldAfterEdit = Holds (links_after_edit is_outside edit links)

  -- In the links after the edit, concept m is n, above n, below n, or an exact match of n.
  abbrev pub IsNear : (n m : Number) → Type 0
  IsNear n m = (m ≡ n) ⊎ IsBelow IsHeldAfterEdit n m ⊎ IsBelow IsHeldAfterEdit m n ⊎ IsExactMatch IsHeldAfterEdit n m

  -- The link belongs to the neighbourhood: it was held before or is added, and has an end near an edited concept.
  abbrev pub IsNeighbouring : Link → Type 0
  IsNeighbouring l = IsHeldOrNew edit links l × ((n : Number) × (m : Number) × IsEdited edit n × IsNear n m
      × HasEnd m l)

  -- The list has each link of the neighbourhood. The shortest such list has each of them once and no others. So a
  -- number that is at most the length of every such list is at most the number of links in the neighbourhood.
  abbrev pub HasNeighbourhood : List Link → Type 0
  HasNeighbourhood ns = (l : Link) → IsNeighbouring l → Contains ns l
