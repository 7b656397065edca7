-- The rows of a table read so far, and what a load keeps of them in memory.
use Rattle.std.specs.Prelude.{◌≡◌, ◌≢◌, ◌<◌, ◌^◌, ◌+◌, ℕ, List, [], ◌∷◌, ◌++◌, Bool, true, false, cond, not, Some}
use Rattle.std.specs.Prelude.{length, map, slice_get}
use Rattle.std.specs.List.{list_any}
use Rattle.std.specs.Ordering.{nat_cmp, eq_by_cmp}
use Rattle.std.specs.Cmp.Lexicographic.{slice_cmp}
use Rattle.thes_base.specs.declared.data.Resource.{Resource}
use Rattle.thes_base.specs.Resources.{entry_at, IsConcept, is_live_concept}
use Rattle.thes_base.specs.Postings.{place, IsWellFormed}
use Rattle.thes_tables.specs.declared.rows.PostingRow.{PostingRow}
use Rattle.thes_tables.specs.declared.rows.MoveRow.{MoveRow}
use Rattle.thes_post.specs.PostingCounts.{PostingCounts}
use Rattle.thes_load_rules.specs.Rules.{EachRow, AreInOrder, PostingRule, history_of}
use Rattle.thes_load_rows.specs.PostingCounts.{AreCountsOfRows}

-- The result of adding a row: true if it was added, false if no list that begins with the rows so far and this one
-- meets the rule.
abbrev pub TakeResult : {A : Type 0} → (List A → Type 0) → (List A → Type 0) → List A → A → Bool → Type 0
TakeResult Has Rule rows x true = Has (rows ++ x ∷ [])
TakeResult {A} Has Rule rows x false = (more : List A) → Rule (rows ++ x ∷ more) → ⊥

-- Whether the list of posting keys has this key.
abbrev pub has_key : List (List ℕ) → List ℕ → Bool
has_key keys q = list_any (eq_by_cmp (slice_cmp nat_cmp) q) keys

-- The key of a posting was inserted into the list, and the flag `fresh` states whether it is new.
abbrev pub KeyInsertResult : List (List ℕ) → List (List ℕ) → List ℕ → Bool → Type 0
KeyInsertResult old new key fresh =
    (fresh ≡ not (has_key old key))
    × ((q : List ℕ) → has_key new q ≡ cond (eq_by_cmp (slice_cmp nat_cmp) key q) true (has_key old q))

-- The load has the keys, first concepts, places and counts of these rows of table posting, and the rows meet the rule.
pub record HasPostings (resources : List Resource) (keys : List (List ℕ)) (firsts stored_places : List ℕ)
    (posting_counts : PostingCounts) (rows : List PostingRow) : Type 0 where
  pub rule : PostingRule resources rows
  pub keys_are : (q : List ℕ) → has_key keys q ≡ has_key (map (λ (row : PostingRow). row.key) rows) q
  pub firsts_are : firsts ≡ map (λ (row : PostingRow). row.first) rows
  pub stored_places_are : stored_places ≡ map (λ (row : PostingRow). row.place) rows
  pub posting_counts_are : AreCountsOfRows rows posting_counts

-- The row may be the next one of table posting, after `taken` rows, if its key is new.
pub record IsNextPosting (resources : List Resource) (taken : ℕ) (row : PostingRow) : Type 0 where
  pub number : row.number ≡ taken + 1
  pub first : IsConcept resources row.first
  pub place : IsConcept resources row.place
  pub live : row.withdrawn ≡ false → is_live_concept resources row.place ≡ true

-- The rows of table move meet the rule, except that postings may not yet be at their places.
pub record MovesSoFar (resources : List Resource) (postings : List PostingRow) (rows : List MoveRow) : Type 0 where
  pub few : length rows < 2 ^ 32
  pub numbers : AreInOrder (λ (row : MoveRow). row.number) rows
  pub known : EachRow (λ row. (posting : PostingRow) × (entry_at postings row.posting ≡ Some posting)) rows
  pub ends : EachRow (λ row. IsConcept resources row.target × (row.source ≢ row.target)) rows
  pub well_formed : EachRow (λ posting. IsWellFormed (history_of rows posting)) postings

-- The places are those of the postings after these moves.
pub record ArePlacesAfterMoves (postings : List PostingRow) (rows : List MoveRow) (places : List ℕ) : Type 0 where
  pub fit : length places ≡ length postings
  pub place_is :
      (n : ℕ) (p : PostingRow) → entry_at postings n ≡ Some p
      → entry_at places n ≡ Some (place (history_of rows p))

-- The load has read these rows of table move, `taken` in number, and has the place of each posting after them.
pub record HasMoves (resources : List Resource) (postings : List PostingRow) (taken : ℕ)
    (places : List ℕ) (rows : List MoveRow) : Type 0 where
  pub order : AreInOrder (λ (posting : PostingRow). posting.number) postings
  pub so_far : MovesSoFar resources postings rows
  pub count : length rows ≡ taken
  pub place_is : ArePlacesAfterMoves postings rows places

-- The row may be the next one of table move, after `taken` rows and given the places after them.
pub record IsNextMove (resources : List Resource) (places : List ℕ) (taken : ℕ) (row : MoveRow) : Type 0 where
  pub number : row.number ≡ taken + 1
  pub source_place : entry_at places row.posting ≡ Some row.source
  pub two : row.source ≢ row.target
  pub target_concept : IsConcept resources row.target

-- Each stored place is at the same index in the list of places.
abbrev pub HasStoredPlaces : List ℕ → List ℕ → Type 0
HasStoredPlaces places stored_places = (i : ℕ) (y : ℕ) → slice_get stored_places i ≡ Some y
    → slice_get places i ≡ Some y
