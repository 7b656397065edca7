-- A hierarchy as lists: the top concepts, and the children of each concept.
use Rattle.std.specs.Prelude.{◌≡◌, ◌<◌, ℕ, List, [], Bool, true, false, Contains, length, map, slice_get, sum_by}
use Rattle.std.specs.Prelude.{vec_len, Vec}
use Rattle.std.specs.Option.{option_map_or}
use Rattle.std.specs.declared.cmp.Ordering.{Ordering}
use Rattle.std.specs.Ordering.{nat_cmp}
use Rattle.std.specs.List.Sorted.{IsStrictlySortedBy}
use Rattle.thes_display.specs.declared.walk.Child.{Child}
use Rattle.std.specs.declared.alloc.Global.{Global}
use Rattle.thes_base.specs.Listing.{IsListing}
use Rattle.thes_display.specs.declared.walk.WaitingLine.{WaitingLine}
use Rattle.thes_display.specs.Order.{Term}
use Rattle.thes_display.specs.declared.walk.Types.{Types}
use Rattle.thes_display.specs.Lines.{TreeLine, IsTreeLine, line_cmp, lines_text, untyped}

-- The order of children: by rank, which is the order of their terms.
abbrev pub child_cmp : Child → Child → Ordering
child_cmp x y = nat_cmp x.rank y.rank

-- The children of the concept with this rank; none if the rank is past the last list.
abbrev pub children_at : List (List Child) → ℕ → List Child
children_at below b = option_map_or (λ (cs : List Child). cs) (slice_get below b) []

-- The child with this rank and these types, at home or not.
abbrev pub child : ℕ → Types → Bool → Child
child k types home = record { rank = k; types = types; at_home = home }

module _ (tops : List Child) (below : List (List Child)) where
  -- The lists have a top concept with the rank `k`.
  abbrev pub IsTopRank : ℕ → Type 0
  IsTopRank k = Contains tops (child k untyped true)

  -- The lists have a child with the rank `k` below the rank `b`, and `home` states whether `b` is its home.
  abbrev pub IsChildOf : Bool → ℕ → ℕ → Type 0
  IsChildOf home k b = (types : Types) × Contains (children_at below b) (child k types home)

  -- The lists have a child with the rank `k` and these types below the rank `b`.
  abbrev pub IsTypedUnder : Types → ℕ → ℕ → Type 0
  IsTypedUnder types k b = (home : Bool) × Contains (children_at below b) (child k types home)

  -- The line is a line of the hierarchy in these lists.
  abbrev pub IsLineOfLists : TreeLine → Type 0
  IsLineOfLists = IsTreeLine IsTopRank (IsChildOf true) (IsChildOf false) IsTypedUnder

  -- The lists are sorted, and their ranks are below `n`; top concepts are at home and untyped; each rank has at most
  -- one home, and the rank of a top concept has none.
  pub record AreHierarchyLists (n : ℕ) : Type 0 where
    pub size : length below ≡ n
    pub tops_rise : IsStrictlySortedBy child_cmp tops
    pub rises : (b : ℕ) → IsStrictlySortedBy child_cmp (children_at below b)
    pub tops_home : (c : Child) → Contains tops c → (c.at_home ≡ true) × (c.types ≡ untyped) × (c.rank < n)
    pub ranks_bounded : (b : ℕ) (c : Child) → Contains (children_at below b) c → c.rank < n
    pub one_home : (k b c : ℕ) → IsChildOf true k b → IsChildOf true k c → b ≡ c
    pub top_home : (k b : ℕ) → IsTopRank k → IsChildOf true k b → ⊥

-- The children in each vector, as lists.
abbrev pub lists : List (Vec Child Global) → List (List Child)
lists below = map (λ (v : Vec Child Global). v.items) below

-- The number of children in all vectors.
abbrev pub total : List (Vec Child Global) → ℕ
total below = sum_by (λ (v : Vec Child Global). vec_len v) below

-- The line of a child at this depth, as it waits on the stack.
abbrev pub waiting_at : ℕ → Child → WaitingLine
waiting_at depth c = record { rank = c.rank; depth = depth; types = c.types; at_home = c.at_home }

-- The text consists of all lines of the hierarchy in these lists, in the order of their paths.
pub record IsHierarchyText (terms : List Term) (tops : List Child) (below : List (List Child)) (text : List ℕ) : Type
    0 where
  pub lines : List TreeLine
  pub listing : IsListing line_cmp (IsLineOfLists tops below) lines
  pub is : text ≡ lines_text terms lines
