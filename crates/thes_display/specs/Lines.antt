-- Lines of a hierarchy. A line shows one concept, given by its rank, and has a path of ranks from a top concept to it.
use Rattle.std.specs.Prelude.{◌≡◌, ◌*◌, ◌++◌, ℕ, List, [], ◌∷◌, Bool, true, false, length, reverse, replicate}
use Rattle.std.specs.Prelude.{flat_map, slice_get, codes, if◌then◌else◌}
use Rattle.std.specs.Option.{option_map_or}
use Rattle.std.specs.declared.cmp.Ordering.{Ordering}
use Rattle.std.specs.Ordering.{nat_cmp}
use Rattle.std.specs.Cmp.Lexicographic.{slice_cmp}
use Rattle.thes_display.specs.declared.walk.Types.{Types}
use Rattle.thes_display.specs.Order.{Term}

-- A line of a hierarchy: its concept's rank, the ranks above it with the nearest first, the types of the links to the
-- nearest, and whether the nearest is its home.
pub record TreeLine : Type 0 where
  pub rank : ℕ
  pub above : List ℕ
  pub types : Types
  pub at_home : Bool

-- The ranks from the top concept down to the line's own.
abbrev pub path : TreeLine → List ℕ
path line = reverse (line.rank ∷ line.above)

-- The order of lines: by their paths, compared rank by rank.
abbrev pub line_cmp : TreeLine → TreeLine → Ordering
line_cmp x y = slice_cmp nat_cmp (path x) (path y)

-- The types of a line without a typed link.
abbrev pub untyped : Types
untyped = record { generic = false; partitive = false; instantial = false }

-- The arguments: `IsTop k` states that `k` is the rank of a top concept; `IsHome k b` that `b` is the home of `k`;
-- `IsAway k b` that `b` is broader than `k` but not its home; `AreTypes types k b` that these are the types of the
-- links from `k` to `b`.
module _ (IsTop : ℕ → Type 0) (IsHome IsAway : ℕ → ℕ → Type 0) (AreTypes : Types → ℕ → ℕ → Type 0) where
  -- The ranks are the path of homes from a concept up to a top concept.
  abbrev pub IsHomeward : List ℕ → Type 0
  IsHomeward [] = ⊥
  IsHomeward (k ∷ []) = IsTop k
  IsHomeward (k ∷ b ∷ above) = IsHome k b × IsHomeward (b ∷ above)

  -- The ranks are the path of a line at home, or of a line directly below the line at home of a broader concept that
  -- isn't the home.
  abbrev pub IsPlaced : Bool → List ℕ → Type 0
  IsPlaced true up = IsHomeward up
  IsPlaced false [] = ⊥
  IsPlaced false (k ∷ []) = ⊥
  IsPlaced false (k ∷ b ∷ above) = IsAway k b × IsHomeward (b ∷ above)

  -- These are the types of the links to the concept directly above; the line of a top concept has none.
  abbrev pub HasTypes : Types → List ℕ → Type 0
  HasTypes types [] = ⊥
  HasTypes types (k ∷ []) = types ≡ untyped
  HasTypes types (k ∷ b ∷ above) = AreTypes types k b

  -- The line is that of a top concept, or of a pair of a concept and a broader concept of it.
  abbrev pub IsTreeLine : TreeLine → Type 0
  IsTreeLine line = IsPlaced line.at_home (line.rank ∷ line.above) × HasTypes line.types (line.rank ∷ line.above)

-- The text of a line: two spaces for each level below the top concept, the term, the types of the links to the broader
-- concept, and a star if that concept isn't the home.

-- The text of the term with this rank; empty if there is none.
abbrev pub text_at : List Term → ℕ → List ℕ
text_at terms rank = option_map_or (λ (t : Term). t.text) (slice_get terms rank) []

-- The types of hierarchical relationships, in the abbreviations of ISO 25964-1, clause 10.2: generic, whole-part and
-- instance.
abbrev pub types_text : Types → List ℕ
types_text types =
    (if types.generic then codes " (G)" else [])
    ++ ((if types.partitive then codes " (P)" else []) ++ (if types.instantial then codes " (I)" else []))

-- The end of a line: a line feed, after a star if the line isn't at home.
abbrev pub line_end : Bool → List ℕ
line_end true = codes "\n"
line_end false = codes " *\n"

-- The line of the term with this rank, at this depth, with these types, at home or not.
abbrev pub placed_text : List Term → (rank depth : ℕ) → Types → Bool → List ℕ
placed_text terms rank depth types at_home =
    replicate (2 * depth) 32 ++ (text_at terms rank ++ (types_text types ++ line_end at_home))

-- The text of a line, whose depth is the number of concepts above it.
abbrev pub tree_line_text : List Term → TreeLine → List ℕ
tree_line_text terms line = placed_text terms line.rank (length line.above) line.types line.at_home

-- The texts of the lines, in order.
abbrev pub lines_text : List Term → List TreeLine → List ℕ
lines_text terms lines = flat_map (tree_line_text terms) lines
