-- Proves that the sorted places of concepts' headings have the terms of these concepts, in alphabetical order.
use Rattle.std.proofs.lemmas.Grind.{common_steps}
use Rattle.std.proofs.Common.{◌≡◌, ◌∙◌, ◌<◌, ◌≤◌, ◌+◌, sym, ap, ap₂, refl, subst, ℕ, List, [], ◌∷◌, map, length, Option, Some}
use Rattle.std.proofs.Common.{None, arith, inl, inr, Ordering, Less, Equal, Greater, false, Bool, get_or}
use Rattle.std.specs.Prelude.{Contains}
use Rattle.std.specs.List.{AllByRecursion, filter_map, cons_option}
use Rattle.std.specs.List.Sorted.{IsStrictlySortedBy}
use Rattle.std.specs.Option.{option_map_or}
use Rattle.std.specs.Ordering.{nat_cmp, ordering_then}
use Rattle.std.specs.Cmp.{nat_cmp_total, tied_itself}
use Rattle.std.proofs.lemmas.Cmp.{on_total}
use Rattle.std.proofs.lemmas.Map.Keys.{Less-from_sorted}
use Rattle.std.proofs.lemmas.Map.Lookups.{exact_unsigned}
use Rattle.std.proofs.lemmas.Option.{get_or_from_slice_get, slice_get_read, slice_get_within}
use Rattle.thes_base.specs.Listing.{IsListing}
use Rattle.thes_base.specs.State.{State}
use Rattle.thes_display.specs.declared.heading.Heading.{Heading}
use Rattle.thes_display.specs.declared.heading_index.HeadingIndex.{HeadingIndex}
use Rattle.thes_display.specs.declared.symbol.Symbol.{Symbol}
use Rattle.thes_display.specs.declared.symbol.Symbol.TheVariants as symbol
use Rattle.thes_display.specs.Alphabetical.{IsHeadedBy, IsUnder, heading_cmp}
use Rattle.thes_core.specs.Terms.{term_text}
use Rattle.thes_display.specs.EntryTerms.{AreLinkedUnder, IsTermOf}
use Rattle.thes_display.specs.HeadingIndex.{AreSortedPlaces, AreTermPlaces, IsHeadingIndex, IsOwnAt, term_at}
use Rattle.thes_display.specs.HierarchyParts.{rank_at}
use Rattle.thes_display.specs.Order.{Term, term_cmp}
use Rattle.thes_display.proofs.HomeLemmas.{rank_from}
use Rattle.thes_display.proofs.SortLemmas.{listing_in_order, rises_by}
use Rattle.thes_display.proofs.TermLemmas.{same_term}
use Rattle.thes_display.proofs.ListLemmas.{IsOneOf, among_from, among_map, contains_of, map_among}

few_found : (o : Option ℕ) (ks : List ℕ) (m : ℕ) → length ks ≤ m → length (cons_option o ks) ≤ m + 1
few_found None ks m l = omega (arith, l)
few_found (Some k) ks m l = omega (arith, l)

found_few : (f : ℕ → Option ℕ) (xs : List ℕ) → length (filter_map f xs) ≤ length xs
found_few f [] = omega arith
found_few f (x ∷ xs) = let l = few_found (f x) (filter_map f xs) (length xs) (found_few f xs) in omega (arith, l)

module _ (f : ℕ → Option ℕ) (at : ℕ → ℕ) (ok : (n k : ℕ) → f n ≡ Some k → at k ≡ n) where
  back_one : (x : ℕ) (xs : List ℕ) (o : Option ℕ) → f x ≡ o → length (x ∷ xs) ≤ length (cons_option o (filter_map f xs))
      → (length xs ≤ length (filter_map f xs) → map at (filter_map f xs) ≡ xs)
      → map at (cons_option o (filter_map f xs)) ≡ x ∷ xs
  back_one x xs None e l rest = let few = found_few f xs in absurd (omega (arith, l, few))
  back_one x xs (Some k) e l rest = ap₂ ◌∷◌ (ok x k e) (rest (omega (arith, l)))

  -- If every concept has a place, the concepts at the places found are the same concepts, in order.
  back : (xs : List ℕ) → length xs ≤ length (filter_map f xs) → map at (filter_map f xs) ≡ xs
  back [] l = refl
  back (x ∷ xs) l = back_one x xs (f x) refl l (back xs)

less_than : (j k : ℕ) → nat_cmp j k ≡ Less → j < k
less_than j k e = grind (arith, common_steps)

then_less : (o : Ordering) → ordering_then o Equal ≡ Less → o ≡ Less
then_less Less e = refl
then_less Equal e = absurd (cc)
then_less Greater e = absurd (cc)

module _ (headings : List Heading) where
  abbrev concept_at : ℕ → ℕ
  concept_at k = (term_at headings k).concept

  term_is : (n k : ℕ) (o : IsOwnAt headings n k) → term_at headings k ≡ o.heading.term
  term_is n k o = ap (λ x. option_map_or (λ (h : Heading). h.term) x (record { text = []; concept = 0 })) o.heading_at

  own_concept : (n k : ℕ) → IsOwnAt headings n k → (term_at headings k).concept ≡ n
  own_concept n k o = ap (λ (t : Term). t.concept) (term_is n k o) ∙ o.concept

  own_cmp : (x y : Heading) → x.lead_in ≡ false → y.lead_in ≡ false → heading_cmp x y
      ≡ ordering_then (term_cmp x.term y.term) Equal
  own_cmp x y e f = grind (arith, common_steps)

  less_terms : IsStrictlySortedBy heading_cmp headings → (m n j k : ℕ) → IsOwnAt headings m j → IsOwnAt headings n k
      → nat_cmp j k ≡ Less → term_cmp (term_at headings j) (term_at headings k) ≡ Less
  less_terms rises m n j k a b e =
      let below = Less-from_sorted heading_cmp headings j k b.heading rises (less_than j k e)
      (slice_get_within headings k b.heading b.heading_at) in
      let x = get_or_from_slice_get headings j a.heading b.heading a.heading_at in
      let y = get_or_from_slice_get headings k b.heading b.heading b.heading_at in
      let less : heading_cmp a.heading b.heading ≡ Less = subst (λ z. heading_cmp z b.heading ≡ Less) x
      (subst (λ z. heading_cmp (get_or headings j b.heading) z ≡ Less) y below) in
      ap₂ term_cmp (term_is m j a) (term_is n k b)
      ∙ then_less _ (sym (own_cmp a.heading b.heading a.own b.own) ∙ less)

  terms_rise : IsStrictlySortedBy heading_cmp headings → (ks : List ℕ) → IsStrictlySortedBy nat_cmp ks
      → ((k : ℕ) → IsOneOf k ks → (n : ℕ) × IsOwnAt headings n k)
      → IsStrictlySortedBy term_cmp (map (term_at headings) ks)
  unfolding IsStrictlySortedBy
  terms_rise rises [] s own = tt
  terms_rise rises (k ∷ ks) s own = (
    below ks s.0 (λ j i. own j (inr i)),
    terms_rise rises ks s.1 (λ j i. own j (inr i)),
  )
    where
      below : (js : List ℕ) → AllByRecursion (λ j. nat_cmp k j ≡ Less) js
          → ((j : ℕ) → IsOneOf j js → (n : ℕ) × IsOwnAt headings n j)
          → AllByRecursion (λ t. term_cmp (term_at headings k) t ≡ Less) (map (term_at headings) js)
      below [] all owned = tt
      below (j ∷ js) all owned =
          let a = own k (inl refl) in
          let b = owned j (inl refl) in
          (less_terms rises a.0 b.0 k j a.1 b.1 all.0, below js all.1 (λ i x. owned i (inr x)))

module _ (s : State) (tag : List ℕ) (index : HeadingIndex) (is : IsHeadingIndex s tag index) where
  abbrev Hs : List Heading
  Hs = index.headings.items

  abbrev Place : ℕ → Option ℕ
  Place = rank_at index.places.items

  text_at : (h : Heading) → Contains Hs h → (b : Bool) → h.lead_in ≡ b → b ≡ false → h.term.text
      ≡ term_text s.labels tag h.term.concept
  text_at h c b e f = subst (λ x. IsHeadedBy s tag x h.term) (e ∙ f) (is.texts h c)

  own_text : (n k : ℕ) (o : IsOwnAt Hs n k) → o.heading.term.text ≡ term_text s.labels tag o.heading.term.concept
  own_text n k o = text_at o.heading (
    k,
    slice_get_within Hs k o.heading o.heading_at,
    get_or_from_slice_get Hs k o.heading o.heading o.heading_at,
  ) false o.own refl

  -- The place of a concept is that of a heading with its term.
  pub place_within : (n k : ℕ) → Place n ≡ Some k → k < length Hs
  place_within n k e = let o = is.places n k e in slice_get_within Hs k o.heading o.heading_at

  pub place_text : (n k : ℕ) → Place n ≡ Some k → (term_at Hs k).text ≡ term_text s.labels tag n
  place_text n k e =
      let o = is.places n k e in
      ap (λ (t : Term). t.text) (term_is Hs n k o) ∙ own_text n k o ∙ ap (term_text s.labels tag) o.concept

module _ (s : State) (tag : List ℕ) (index : HeadingIndex) (is : IsHeadingIndex s tag index) (P : ℕ → Type 0)
    (xs ks : List ℕ) (listed : IsListing nat_cmp P xs)
    (are : AreSortedPlaces (rank_at index.places.items) xs ks) where
  abbrev Headings : List Heading
  Headings = index.headings.items

  abbrev PlaceOf : ℕ → Option ℕ
  PlaceOf = rank_at index.places.items

  abbrev Zs : List ℕ
  Zs = filter_map PlaceOf xs

  ok : (n k : ℕ) → PlaceOf n ≡ Some k → concept_at Headings k ≡ n
  ok n k e = own_concept Headings n k (is.places n k e)

  zs_back : map (concept_at Headings) Zs ≡ xs
  zs_back = back PlaceOf (concept_at Headings) ok xs are.all

  own_of : (k : ℕ) → IsOneOf k Zs → (n : ℕ) × IsOneOf n xs × IsOwnAt Headings n k
  own_of k a = let x = rank_from PlaceOf Zs xs k refl a in (x.0, x.1, is.places x.0 k x.2)

  in_order : IsListing nat_cmp (λ k. IsOneOf k Zs) ks
  in_order =
      listing_in_order (λ x y. nat_cmp (concept_at Headings x) (concept_at Headings y)) nat_cmp
      (on_total (concept_at Headings) nat_cmp_total) nat_cmp_total
      (λ x y e. ap (λ i. nat_cmp (concept_at Headings i) (concept_at Headings y)) (exact_unsigned x y e)
      ∙ tied_itself nat_cmp_total (concept_at Headings y)) (λ k. IsOneOf k Zs) Zs ks
      (record {
        rises = rises_by (concept_at Headings) Zs (subst (IsStrictlySortedBy nat_cmp) (sym zs_back) listed.rises);
        sound = λ k c. among_from k Zs c;
        complete = λ k i. contains_of k Zs i;
      }) are.same are.order

  own_at : (k : ℕ) → IsOneOf k ks → (n : ℕ) × IsOneOf n xs × IsOwnAt Headings n k
  own_at k a = own_of k (in_order.sound k (contains_of k ks a))

  term_sound : (t : Term) → IsOneOf t (map (term_at Headings) ks) → IsTermOf s.labels tag P t
  term_sound t a =
      let k = among_map (term_at Headings) t ks a in
      let o = own_at k.0 k.1 in
      let same : t ≡ o.2.heading.term = k.2 ∙ term_is Headings o.0 k.0 o.2 in
      subst (IsTermOf s.labels tag P) (sym same)
      (subst P (sym o.2.concept) (listed.sound o.0 (contains_of o.0 xs o.1)), own_text s tag index is o.0 k.0 o.2)

  term_complete : (t : Term) → IsTermOf s.labels tag P t → IsOneOf t (map (term_at Headings) ks)
  term_complete t p =
      let x = among_from t.concept xs (listed.complete t.concept p.0) in
      let k = among_map (concept_at Headings) t.concept Zs (subst (IsOneOf t.concept) (sym zs_back) x) in
      let o = own_of k.0 k.1 in
      let there = map_among (term_at Headings) k.0 ks (among_from k.0 ks (in_order.complete k.0 k.1)) in
      let is_term = term_is Headings o.0 k.0 o.2 in
      let number : o.2.heading.term.concept ≡ t.concept = sym (ap (λ (z : Term). z.concept) is_term) ∙ sym k.2 in
      let same : term_at Headings k.0 ≡ t = is_term ∙ same_term o.2.heading.term t
      (own_text s tag index is o.0 k.0 o.2 ∙ ap (term_text s.labels tag) number ∙ sym p.1) number in
      subst (λ z. IsOneOf z (map (term_at Headings) ks)) same there

  pub are_places : AreTermPlaces Headings (IsTermOf s.labels tag P) ks
  are_places = record {
    bound = λ k c. let o = own_at k (among_from k ks c) in slice_get_within Headings k o.2.heading o.2.heading_at;
    listing = record {
      rises = terms_rise Headings is.rises ks in_order.rises (λ k a. let o = own_at k a in (o.0, o.2));
      sound = λ t c. term_sound t (among_from t _ c);
      complete = λ t p. contains_of t _ (term_complete t p);
    };
  }

-- The sorted places of linked concepts are those of the terms for the symbol.
pub places_are : (s : State) (tag : List ℕ) (index : HeadingIndex) → IsHeadingIndex s tag index → (n : ℕ) (z : Symbol)
    (xs ks : List ℕ) → AreLinkedUnder s.links n z xs → AreSortedPlaces (rank_at index.places.items) xs ks
    → AreTermPlaces index.headings.items (IsUnder s tag n z) ks
places_are s tag index is n symbol.ScopeNote xs ks listed are = absurd listed
places_are s tag index is n symbol.UsedFor xs ks listed are = absurd listed
places_are s tag index is n (symbol.Broader type) xs ks listed are = are_places s tag index is _ xs ks listed are
places_are s tag index is n (symbol.Narrower type) xs ks listed are = are_places s tag index is _ xs ks listed are
places_are s tag index is n symbol.Related xs ks listed are = are_places s tag index is _ xs ks listed are

-- The term at a place is that of the heading read there.
pub term_read : (headings : List Heading) (k : ℕ) (h : Heading) → k < length headings → h ≡ get_or headings k h
    → term_at headings k ≡ h.term
term_read headings k h l e = ap (λ x. option_map_or (λ (z : Heading). z.term) x (record { text = []; concept = 0 }))
    (slice_get_read headings (length headings) k h refl l e)

-- The places of linked concepts are within the headings.
pub places_bound : (s : State) (tag : List ℕ) (index : HeadingIndex) → IsHeadingIndex s tag index → (z : Symbol)
    (xs ks : List ℕ) → (n : ℕ) × AreLinkedUnder s.links n z xs → AreSortedPlaces (rank_at index.places.items) xs ks
    → (k : ℕ) → Contains ks k → k < length index.headings.items
places_bound s tag index is z xs ks linked are = (places_are s tag index is linked.0 z xs ks linked.1 are).bound
