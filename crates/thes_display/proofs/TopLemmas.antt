-- Proves that the list of top concepts has exactly the concepts without a home.
use Rattle.std.proofs.Common.{◌≡◌, ◌<◌, ◌+◌, ◌∙◌, sym, ap, refl, subst, ℕ, true, List, [], ◌∷◌, ◌++◌, length}
use Rattle.std.proofs.Common.{Option, Some, None, arith, Less, ⊎_elim, inl, inr, lt-ltb}
use Rattle.std.specs.Ordering.{nat_cmp}
use Rattle.std.proofs.lemmas.Bool.{cases_lt}
use Rattle.std.proofs.lemmas.Option.{slice_get-get_or}
use Rattle.thes_base.specs.Links.{Links}
use Rattle.thes_base.specs.Listing.{IsListing}
use Rattle.thes_display.specs.declared.walk.Child.{Child}
use Rattle.thes_display.specs.Order.{Term}
use Rattle.thes_display.specs.Lines.{untyped}
use Rattle.thes_display.specs.ChildLists.{child, child_cmp}
use Rattle.thes_display.specs.HierarchyParts.{AreHomes, AreBelow, IsHomeBelow, IsTopByHomes, IsGathered, IsRoot, rank_at}
use Rattle.thes_display.proofs.ListingLemmas.{listing_as, listing_more, listing_none}
use Rattle.thes_display.proofs.HierarchyLemmas.{rank_within}

less_from : (x y : ℕ) → x < y → nat_cmp x y ≡ Less
less_from x y l = rw lt-ltb

module _ (homes : List (Option ℕ)) where
  pub tops_none : (tops : List Child) → tops ≡ [] → IsListing child_cmp (IsTopByHomes homes 0) tops
  tops_none tops e = listing_none child_cmp _ tops e (λ c i. let l = i.1 in omega arith)

  -- A rank without a home extends the list of top concepts.
  pub tops_more : (m : ℕ) (tops new : List Child) → IsListing child_cmp (IsTopByHomes homes m) tops
      → rank_at homes m ≡ None → new ≡ tops ++ child m untyped true ∷ []
      → IsListing child_cmp (IsTopByHomes homes (m + 1)) new
  tops_more m tops new t h e =
      listing_more child_cmp _ _ tops new (child m untyped true) t e (λ w p. less_from w.rank m p.1)
      (λ c i. ⊎_elim (λ old. inl (i.0, old, i.2))
      (λ last. let l = i.1 in let k : c.rank ≡ m = omega (arith, l, last) in
      inr (λ j. record { rank = k j; types = i.0.1 j; at_home = i.0.0 j })) (cases_lt c.rank m))
      (λ c i. (i.0, let l = i.1 in omega (arith, l), i.2)) ((refl, refl), omega arith, h)

  tops_skip : (m j : ℕ) (tops : List Child) → IsListing child_cmp (IsTopByHomes homes m) tops
      → rank_at homes m ≡ Some j → IsListing child_cmp (IsTopByHomes homes (m + 1)) tops
  tops_skip m j tops t h =
      listing_as child_cmp _ _ tops (λ c i. (i.0, let l = i.1 in omega (arith, l), i.2))
      (λ c i. (
        i.0,
        ⊎_elim (λ old. old) (λ last. let l = i.1 in let k : c.rank ≡ m = omega (arith, l, last) in
            absurd (none_some (sym i.2 ∙ ap (rank_at homes) k ∙ h))) (cases_lt c.rank m),
        i.2,
      )) t
    where
      none_some : None ≡ Some j → ⊥
      none_some q = cc

  -- A rank with a home leaves the list of top concepts unchanged.
  pub tops_same : (m : ℕ) (tops new : List Child) → IsListing child_cmp (IsTopByHomes homes m) tops
      → (j : ℕ) × (rank_at homes m ≡ Some j) → new ≡ tops → IsListing child_cmp (IsTopByHomes homes (m + 1)) new
  tops_same m tops new t home e = subst (IsListing child_cmp (IsTopByHomes homes (m + 1))) (sym e)
      (tops_skip m home.0 tops t home.1)

  pub is_gathered : (links : Links) (terms : List Term) (tops : List Child) (below : List (List Child))
      → AreHomes links terms (length terms) homes → IsListing child_cmp (IsTopByHomes homes (length terms)) tops
      → AreBelow links terms (length terms) below → IsGathered links terms tops below
  is_gathered links terms tops below are t a = record {
    size = a.size;
    tops_listed = listing_as child_cmp _ _ tops (λ c i. (i.0, root c.rank i.1 i.2))
        (λ c i. (
          i.0,
          rank_within terms i.1.concept c.rank i.1.rank,
          homeless c.rank i.1 (rank_at homes c.rank)
              refl,
        )) t;
    below_listed = a.each;
  }
    where
      root : (k : ℕ) → k < length terms → rank_at homes k ≡ None → IsRoot links terms k
      root k l e =
          let none = subst (IsHomeBelow links terms (length terms) k) e (are k) in
          record {
            concept = _;
            rank = record {
              term = _;
              term_at = slice_get-get_or terms k (record { text = []; concept = 0 }) l;
              concept = refl;
            };
            none = λ b r. let m = none b r in let w = rank_within terms r.upper b r.upper_rank in omega (arith, m, w);
          }

      homeless : (k : ℕ) → IsRoot links terms k → (o : Option ℕ) → rank_at homes k ≡ o → rank_at homes k ≡ None
      homeless k top None e = e
      homeless k top (Some j) e =
          absurd (top.none j (subst (IsHomeBelow links terms (length terms) k) e (are k)).0.broader)
