-- Proves that the children computed for a concept are exactly its children, sorted by rank.
use Rattle.std.proofs.lemmas.Grind.{common_steps}
use Rattle.std.proofs.Common.{◌≡◌, ◌∙◌, sym, ap, refl, subst, ℕ, Bool, true, false, List, [], ◌∷◌, ◌++◌, map}
use Rattle.std.proofs.Common.{Option, Some, None, arith, rules, ⊎_elim, inl, inr, IsPermutation, IsSorted}
use Rattle.std.specs.Prelude.{Contains, slice_get, is_some, IsTrue, ◌↔◌}
use Rattle.std.specs.Option.{option_map_or}
use Rattle.std.specs.List.{filter, filter_map}
use Rattle.std.specs.Ordering.{nat_cmp}
use Rattle.std.specs.Cmp.{IsTotalOrder, nat_cmp_total, tied_itself}
use Rattle.std.proofs.lemmas.Cmp.{on_total}
use Rattle.std.proofs.lemmas.List.{map-append}
use Rattle.std.proofs.lemmas.List.Kept.{IsStrictlySortedBy-filter}
use Rattle.std.proofs.lemmas.Simd.{map-map}
use Rattle.std.specs.List.Sorted.{IsStrictlySortedBy}
use Rattle.std.proofs.lemmas.Map.Lookups.{exact_unsigned}
use Rattle.thes_base.specs.Links.{Links}
use Rattle.thes_base.specs.Listing.{IsListing}
use Rattle.thes_base.specs.Views.{HasBroader}
use Rattle.thes_display.specs.declared.walk.Child.{Child}
use Rattle.thes_display.specs.declared.walk.Types.{Types}
use Rattle.thes_display.specs.Order.{Term}
use Rattle.thes_display.specs.ChildLists.{child, child_cmp}
use Rattle.thes_display.specs.Hierarchical.{HasRank, IsNarrowerTerm, AreTypes}
use Rattle.thes_display.specs.HierarchyParts.{AreRanks, AreHomes, IsChildAt, IsChild, IsHomeBelow, rank_at}
use Rattle.thes_display.proofs.ListLemmas.{IsOneOf, among_from, contains_of, among_append}
use Rattle.thes_display.proofs.HierarchyLemmas.{one_concept}
use Rattle.thes_display.proofs.SortLemmas.{rises_by, listing_in_order}
use Rattle.thes_display.proofs.HomeLemmas.{rank_from, rank_to}

module _ (links : Links) (terms : List Term) (b : ℕ) where
  -- The children have exactly these ranks, in order, and each is a child of the concept with the rank `b`.
  pub record AreChildren (ks : List ℕ) (children : List Child) : Type 0 where
    pub ranks_are : map (λ (c : Child). c.rank) children ≡ ks
    pub kinds : (c : Child) → IsOneOf c children → IsChild links terms b c

  pub children_none : (children : List Child) → children ≡ [] → AreChildren [] children
  children_none children e = grind (arith, common_steps)

  -- The concept is the home of each narrower concept that has no home in the list, and of no other.
  kind_of : (homes : List (Option ℕ)) → AreHomes links terms b homes → (k : ℕ) (h : Bool)
      → IsNarrowerTerm links terms k b → (h ≡ true → rank_at homes k ≡ None)
      → (h ≡ false → (home : ℕ) × (rank_at homes k ≡ Some home)) → IsChildAt links terms h k b
  kind_of homes are k true r none some =
      record { broader = r; least = subst (IsHomeBelow links terms b k) (none refl) (are k) }
  kind_of homes are k false r none some =
      let home = some refl in
      let before = subst (IsHomeBelow links terms b k) home.1 (are k) in
      record {
        broader = r;
        other = λ is. let l = is.least home.0 before.0.broader in let m = before.1 in omega (arith, l, m);
      }

  pub children_more : (homes : List (Option ℕ)) → AreHomes links terms b homes
      → (ks more : List ℕ) (children new : List Child) (k : ℕ) (types : Types) (h : Bool) → AreChildren ks children
      → IsNarrowerTerm links terms k b → AreTypes links terms types k b
      → (h ≡ true → rank_at homes k ≡ None) → (h ≡ false → (home : ℕ) × (rank_at homes k ≡ Some home)) → new
      ≡ children ++ child k types h ∷ [] → more ≡ ks ++ k ∷ [] → AreChildren more new
  children_more homes are ks more children new k types h a r ty none some e f = record {
    ranks_are = ap (map (λ (c : Child). c.rank)) e ∙ map-append (λ (c : Child). c.rank) children (child k types h ∷ [])
        ∙ ap (λ t. t ++ k ∷ []) a.ranks_are ∙ sym f;
    kinds = λ c i. ⊎_elim (λ old. a.kinds c old)
        (λ last. ⊎_elim (λ same. subst (IsChild links terms b) (sym same) (kind_of homes are k h r none some, ty))
        (λ n. absurd n) last) (among_append c children (child k types h ∷ []) (subst (IsOneOf c) e i));
  }

  -- The concept with this rank.
  abbrev concept_at : ℕ → ℕ
  concept_at k = option_map_or (λ (t : Term). t.concept) (slice_get terms k) 0

  concept_is : (n k : ℕ) → HasRank terms n k → concept_at k ≡ n
  concept_is n k h = ap (λ o. option_map_or (λ (t : Term). t.concept) o 0) h.term_at ∙ h.concept

  -- Whether the concept has a rank.
  abbrev has_rank : (ℕ → Option ℕ) → ℕ → Bool
  has_rank ranks n = is_some (ranks n)

  concepts_one : (ranks : ℕ → Option ℕ) → AreRanks terms ranks → (x : ℕ) (xs : List ℕ) (o : Option ℕ) → ranks x ≡ o
      → map concept_at (filter_map ranks xs) ≡ filter (has_rank ranks) xs
      → map concept_at (filter_map ranks (x ∷ xs)) ≡ filter (has_rank ranks) (x ∷ xs)
  concepts_one ranks are x xs None e rest = search (rules, e, rest)
  concepts_one ranks are x xs (Some k) e rest = let first = concept_is x k (are.rank_is x k e) in
      search (rules, e, rest, first)

  -- The ranks found are those of the concepts that have one.
  concepts_are : (ranks : ℕ → Option ℕ) → AreRanks terms ranks → (xs : List ℕ) → map concept_at (filter_map ranks xs)
      ≡ filter (has_rank ranks) xs
  concepts_are ranks are [] = refl
  concepts_are ranks are (x ∷ xs) = concepts_one ranks are x xs (ranks x) refl (concepts_are ranks are xs)

  concepts_made : (ranks : ℕ → Option ℕ) → AreRanks terms ranks → (ks xs : List ℕ) (made : List Child) → ks
      ≡ filter_map ranks xs → map (λ (c : Child). c.rank) made ≡ ks
      → map (λ (c : Child). concept_at c.rank) made ≡ filter (has_rank ranks) xs
  concepts_made ranks are ks xs made found e = sym (map-map concept_at (λ (c : Child). c.rank) made)
      ∙ ap (map concept_at) (e ∙ found) ∙ concepts_are ranks are xs

  child_total : IsTotalOrder child_cmp
  child_total = on_total (λ (c : Child). c.rank) nat_cmp_total

  by_rank : (c : Child) (k : ℕ) (children : List Child) → IsOneOf k (map (λ (c : Child). c.rank) children) → (d : Child)
      × IsOneOf d children × (d.rank ≡ k)
  by_rank c k [] a = absurd a
  by_rank c k (d ∷ children) (inl e) = (d, inl refl, sym e)
  by_rank c k (d ∷ children) (inr a) = let r = by_rank c k children a in (r.0, inr r.1, r.2)

  one_kind : (k : ℕ) (g h : Bool) → IsChildAt links terms g k b → IsChildAt links terms h k b → g ≡ h
  one_kind k g h p q = grind (arith, common_steps)

  same_child : (c d : Child) → c.rank ≡ d.rank → c.types ≡ d.types → c.at_home ≡ d.at_home → c ≡ d
  same_child c d e t f = λ i. record { rank = e i; types = t i; at_home = f i }

  -- Two tests of the same property have the same result.
  same_test : {P : Type 0} (x y : Bool) → IsTrue x ↔ P → IsTrue y ↔ P → x ≡ y
  same_test x y p q = grind (arith, common_steps)

  -- Only one value of types fits the links between two ranks.
  pub one_types : (k : ℕ) (x y : Types) → AreTypes links terms x k b → AreTypes links terms y k b → x ≡ y
  one_types k x y p q = grind (arith, common_steps, one_concept, same_test)

  broader_of_child : (h : Bool) (k : ℕ) → IsChildAt links terms h k b → IsNarrowerTerm links terms k b
  broader_of_child true k p = p.broader
  broader_of_child false k p = p.broader

  -- The children made from the ranks found are exactly the children of the concept with the rank `b`.
  made_children : (ranks : ℕ → Option ℕ) → AreRanks terms ranks → (n : ℕ) → HasRank terms n b → (xs ks : List ℕ)
      → IsListing nat_cmp (λ a. HasBroader links a n) xs → ks ≡ filter_map ranks xs
      → (made : List Child) → AreChildren ks made → IsListing (λ x y. nat_cmp (concept_at x.rank) (concept_at y.rank))
      (IsChild links terms b) made
  made_children ranks are n here xs ks listed found made a = record {
    rises = rises_by (λ (c : Child). concept_at c.rank) made
        (subst (IsStrictlySortedBy nat_cmp) (sym (concepts_made ranks are ks xs made found a.ranks_are))
        (IsStrictlySortedBy-filter nat_cmp (has_rank ranks) xs listed.rises));
    sound = λ c i. a.kinds c (among_from c made i);
    complete = λ c i.
        let r = broader_of_child c.at_home c.rank i.0 in
        let link = subst (λ m. HasBroader links r.lower m) (one_concept terms r.upper n b r.upper_rank here) r.link in
        let k = rank_to ranks ks xs r.lower c.rank found (among_from r.lower xs (listed.complete r.lower link))
        (are.all r.lower c.rank r.lower_rank) in
        let d = by_rank c c.rank made (subst (IsOneOf c.rank) (sym a.ranks_are) k) in
        let made_as = a.kinds d.0 d.1 in
        let home = one_kind c.rank c.at_home d.0.at_home i.0 (subst (λ k. IsChildAt links terms d.0.at_home k b) d.2
        made_as.0) in
        let types = one_types c.rank c.types d.0.types i.1 (subst (λ k. AreTypes links terms d.0.types k b) d.2
        made_as.1) in
        let same = same_child c d.0 (sym d.2) types home in
        contains_of c made (subst (λ z. IsOneOf z made) (sym same) d.1);
  }

  pub children_listed : (ranks : ℕ → Option ℕ) → AreRanks terms ranks → (n : ℕ) → HasRank terms n b → (xs ks : List ℕ)
      → IsListing nat_cmp (λ a. HasBroader links a n) xs → ks ≡ filter_map ranks xs
      → (made children : List Child) → AreChildren ks made → IsPermutation made children → IsSorted child_cmp children
      → IsListing child_cmp (IsChild links terms b) children
  children_listed ranks are n here xs ks listed found made children a p sorted =
      listing_in_order (λ x y. nat_cmp (concept_at x.rank) (concept_at y.rank)) child_cmp
      (on_total (λ (c : Child). concept_at c.rank) nat_cmp_total) child_total
      (λ x y e. ap (λ i. nat_cmp (concept_at i) (concept_at y.rank)) (exact_unsigned x.rank y.rank e)
      ∙ tied_itself nat_cmp_total (concept_at y.rank))
      (IsChild links terms b) made children (made_children ranks are n here xs ks listed found made a) p sorted

  -- Each rank found is that of a narrower concept.
  pub broader_at : (ranks : ℕ → Option ℕ) → AreRanks terms ranks → (n : ℕ) → HasRank terms n b → (xs ks : List ℕ)
      → IsListing nat_cmp (λ a. HasBroader links a n) xs → ks ≡ filter_map ranks xs → (k : ℕ) → Contains ks k
      → IsNarrowerTerm links terms k b
  broader_at ranks are n here xs ks listed found k c =
      let x = rank_from ranks ks xs k found (among_from k ks c) in
      record {
        lower = x.0;
        upper = n;
        lower_rank = are.rank_is x.0 k x.2;
        upper_rank = here;
        link = listed.sound x.0 (contains_of x.0 xs x.1);
      }
