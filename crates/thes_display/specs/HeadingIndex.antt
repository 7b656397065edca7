-- An index of headings by concept, from which entries take the terms of linked concepts.
use Rattle.std.specs.Prelude.{◌≡◌, ◌<◌, ◌≤◌, ℕ, List, [], Option, Some, false, Contains, IsPermutation, IsSorted}
use Rattle.std.specs.Prelude.{length, map, slice_get}
use Rattle.std.specs.List.{filter_map}
use Rattle.std.specs.List.Sorted.{IsStrictlySortedBy}
use Rattle.std.specs.Option.{option_map_or}
use Rattle.std.specs.Ordering.{nat_cmp}
use Rattle.thes_base.specs.Listing.{IsListing}
use Rattle.thes_base.specs.State.{State}
use Rattle.thes_display.specs.Alphabetical.{IsHeadedBy, heading_cmp}
use Rattle.thes_display.specs.HierarchyParts.{rank_at}
use Rattle.thes_display.specs.Order.{Term, term_cmp}
use Rattle.thes_display.specs.declared.heading.Heading.{Heading}
use Rattle.thes_display.specs.declared.heading_index.HeadingIndex.{HeadingIndex}

-- The heading at the place `k` is the own heading of the concept `n`, not that of a lead-in term.
pub record IsOwnAt (headings : List Heading) (n k : ℕ) : Type 0 where
  pub heading : Heading
  pub heading_at : slice_get headings k ≡ Some heading
  pub own : heading.lead_in ≡ false
  pub concept : heading.term.concept ≡ n

-- If a concept has a place, its own heading is at that place.
abbrev pub ArePlaces : List Heading → (ℕ → Option ℕ) → Type 0
ArePlaces headings place = (n k : ℕ) → place n ≡ Some k → IsOwnAt headings n k

-- The headings are sorted, and have texts of the state in the language; the places are those of concepts' own headings.
pub record IsHeadingIndex (s : State) (tag : List ℕ) (index : HeadingIndex) : Type 0 where
  pub rises : IsStrictlySortedBy heading_cmp index.headings.items
  pub texts : (h : Heading) → Contains index.headings.items h → IsHeadedBy s tag h.lead_in h.term
  pub places : ArePlaces index.headings.items (rank_at index.places.items)

-- The term of the heading at this place; an empty one past the end.
abbrev pub term_at : List Heading → ℕ → Term
term_at headings k = option_map_or (λ (h : Heading). h.term) (slice_get headings k) (record { text = []; concept = 0 })

-- The places are those of the headings of all these concepts, sorted.
pub record AreSortedPlaces (place : ℕ → Option ℕ) (concepts ks : List ℕ) : Type 0 where
  pub all : length concepts ≤ length (filter_map place concepts)
  pub same : IsPermutation (filter_map place concepts) ks
  pub order : IsSorted nat_cmp ks

-- The places are within the list of headings, and the terms at them are those with the property `Is`, in alphabetical
-- order.
pub record AreTermPlaces (headings : List Heading) (Is : Term → Type 0) (ks : List ℕ) : Type 0 where
  pub bound : (k : ℕ) → Contains ks k → k < length headings
  pub listing : IsListing term_cmp Is (map (term_at headings) ks)
