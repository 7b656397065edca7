-- The links after an edit: no change, one new link, or a merge.
use Rattle.std.specs.Prelude.{◌≡◌, ◌≢◌, ◌==◌, ◌+◌, ◌⊎◌, ℕ, List, Contains, if◌then◌else◌, Option, None, Some, [], ◌∷◌}
use Rattle.std.specs.Prelude.{◌++◌}
use Rattle.std.specs.List.{filter_map}
use Rattle.thes_base.specs.declared.data.Link.{Link}
use Rattle.thes_base.specs.Links.{Links, Holds, redirect, redirect_link}
use Rattle.thes_links.specs.declared.edit.LinkEdit.{LinkEdit}
use Rattle.thes_links.specs.declared.edit.LinkEdit.TheVariants.{NoEdit, WithLink, AfterMerge}

-- The node that replaces n in the edit: the target if n is the source of a merge, or else n itself.
abbrev pub node_after : LinkEdit → ℕ → ℕ
node_after NoEdit n = n
node_after (WithLink new) n = n
node_after (AfterMerge source target) n = redirect source target n

-- The link after a merge, or None if both its ends are then the target.
abbrev pub link_after_merge : (source target : ℕ) → Link → Option Link
link_after_merge source target l = if redirect source target l.a == redirect source target l.b then None else Some
    (redirect_link source target l)

-- The link is one of those held after the edit. A link that a merge changes needn't be in normal form yet.
abbrev pub HeldAfter : LinkEdit → Links → Link → Type 0
HeldAfter NoEdit held m = Holds held m
HeldAfter (WithLink new) held m = Holds held m ⊎ (new ≡ m)
HeldAfter (AfterMerge source target) held m = (l : Link) × Holds held l × (link_after_merge source target l ≡ Some m)

-- The link has an end at n after the edit.
abbrev pub TouchesAt : LinkEdit → ℕ → Link → Type 0
TouchesAt edit n l = (node_after edit l.a ≡ n) ⊎ (node_after edit l.b ≡ n)

-- The number of ends of the link, 0 to 2, that are n after the edit.
abbrev pub ends_at_node : LinkEdit → ℕ → Link → ℕ
ends_at_node edit n l = (if node_after edit l.a == n then 1 else 0) + (if node_after edit l.b == n then 1 else 0)

-- The list has only held links, and among them each that has an end at the node after the edit.
pub record IsReadOf (edit : LinkEdit) (held : Links) (node : ℕ) (row : List Link) : Type 0 where
  pub sound : (l : Link) → Contains row l → Holds held l
  pub complete : (l : Link) → Holds held l → TouchesAt edit node l → Contains row l

-- The list has each held link that has an end at the node after the edit.
abbrev pub CoversAt : LinkEdit → Links → ℕ → List Link → Type 0
CoversAt edit held node ns = (l : Link) → Holds held l → TouchesAt edit node l → Contains ns l

-- The links of the list as they are after the edit; a new link comes last.
abbrev pub row_after_edit : LinkEdit → List Link → List Link
row_after_edit NoEdit row = row
row_after_edit (WithLink new) row = row ++ new ∷ []
row_after_edit (AfterMerge source target) row = filter_map (link_after_merge source target) row

-- The edit is valid: a new link has two different ends, and a merge two different nodes.
abbrev pub IsValidEdit : LinkEdit → Type 0
IsValidEdit NoEdit = Unit {0}
IsValidEdit (WithLink new) = new.a ≢ new.b
IsValidEdit (AfterMerge source target) = source ≢ target
