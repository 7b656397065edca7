-- Links that are read one at a time, with a count of the visits.
use Rattle.std.specs.Prelude.{◌≢◌, ◌+◌, ◌-◌, ◌^◌, ℕ, min, List, Contains, AllPairs, Option, None, Some}
use Rattle.thes_base.specs.declared.data.Link.{Link}
use Rattle.thes_base.specs.Links.{Links, Holds, HasEnd}

-- Each of the links has two different ends.
abbrev pub HaveTwoEnds : (Link → Type 0) → Type 0
HaveTwoEnds Held = (l : Link) → Held l → l.a ≢ l.b

-- The list has exactly the held links with an end at the node, each once.
pub record IsRow (held : Links) (node : ℕ) (row : List Link) : Type 0 where
  pub sound : (l : Link) → Contains row l → Holds held l × HasEnd node l
  pub complete : (l : Link) → Holds held l → HasEnd node l → Contains row l
  pub once : AllPairs (λ x y. x ≢ y) row

-- The list is the node's row, and each held link has two different ends.
pub record IsTwoEndedRow (held : Links) (node : ℕ) (row : List Link) : Type 0 where
  pub two_ends : HaveTwoEnds (Holds held)
  pub listing : IsRow held node row

-- The list has exactly the links held, in any order, and each has two different ends.
pub record AreAll (held : Links) (all : List Link) : Type 0 where
  pub two_ends : HaveTwoEnds (Holds held)
  pub sound : (l : Link) → Contains all l → Holds held l
  pub complete : (l : Link) → Holds held l → Contains all l

-- The count after one more visit, which saturates at 2 ^ 64 - 1.
abbrev pub count_after_visit : ℕ → ℕ
count_after_visit n = min (n + 1) (2 ^ 64 - 1)

-- The count after a read, which is a visit only if it returned a link.
abbrev pub count_after_read : ℕ → Option Link → ℕ
count_after_read n None = n
count_after_read n (Some l) = count_after_visit n
