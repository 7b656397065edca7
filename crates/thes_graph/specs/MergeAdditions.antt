-- The links that a merge adds in place of those with an end at its source.
use Rattle.std.specs.Prelude.{◌≡◌, ◌≢◌, ℕ, List, [], ◌∷◌, Contains, AllPairs, if◌then◌else◌, Option, None, Some}
use Rattle.std.specs.Prelude.{option_and_then}
use Rattle.std.specs.FinSet.{insert, remove, contains}
use Rattle.thes_base.specs.declared.data.Link.{Link}
use Rattle.thes_base.specs.Links.{Links, Holds, normal_form, links_after_merge}
use Rattle.thes_links.specs.Reading.{HaveTwoEnds}
use Rattle.thes_links.specs.LinkEdit.{link_after_merge}
use Rattle.thes_links.specs.GraphView.{GraphView, is_marked}

-- Each link held is in normal form.
abbrev pub AreNormal : GraphView → Type 0
AreNormal net = (l : Link) → Holds net.links l → normal_form (is_marked net) l ≡ l

-- The link, or None if it is held.
abbrev pub link_if_new : Links → Link → Option Link
link_if_new links l = if contains links l then None else Some l

-- The link that a merge adds in place of this one, in normal form; None if both its ends would be the target or it is
-- held already.
abbrev pub added_link : GraphView → (source target : ℕ) → Link → Option Link
added_link net source target l = option_and_then (λ m. link_if_new net.links (normal_form (is_marked net) m))
    (link_after_merge source target l)

-- The links are exactly those that a merge adds, which are held after it and not before. None is listed twice if source
-- and target are both marked as outside concepts, or neither is.
pub record AreMergeAdditions (net : GraphView) (source target : ℕ) (ms : List Link) : Type 0 where
  pub sound : (m : Link) → Contains ms m → Holds (links_after_merge (is_marked net) source target net.links) m
      × (Holds net.links m → ⊥)
  pub complete : (m : Link) → Holds (links_after_merge (is_marked net) source target net.links) m
      → (Holds net.links m → ⊥) → Contains ms m
  pub distinct : is_marked net source ≡ is_marked net target → AllPairs (λ x y. x ≢ y) ms

-- The list has exactly the links that are held after a change and weren't before it.
pub record AreAddedLinks (before after : Links) (ms : List Link) : Type 0 where
  pub sound : (m : Link) → Contains ms m → Holds after m × (Holds before m → ⊥)
  pub complete : (m : Link) → Holds after m → (Holds before m → ⊥) → Contains ms m

-- The links are new: each has two different ends, is in normal form, and isn't held.
pub record AreNew (net : GraphView) (ls : List Link) : Type 0 where
  pub two_ends : HaveTwoEnds (Contains ls)
  pub normal : (l : Link) → Contains ls l → normal_form (is_marked net) l ≡ l
  pub new : (l : Link) → Contains ls l → Holds net.links l → ⊥

-- The set after the links of the list are inserted.
abbrev pub with_all : Links → List Link → Links
with_all links [] = links
with_all links (l ∷ ls) = with_all (insert links l) ls

-- The set after the links of the list are removed.
abbrev pub without_links : Links → List Link → Links
without_links links [] = links
without_links links (l ∷ ls) = without_links (remove links l) ls
