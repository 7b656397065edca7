-- Proves that each concept of a legal state has exactly one line at home: its path of homes ends at a top concept,
-- since no concept is above itself.
use Rattle.std.proofs.lemmas.Grind.{common_steps}
use Rattle.std.proofs.Common.{◌≡◌, ◌⊎◌, ◌∙◌, ◌<◌, ◌≤◌, ◌+◌, sym, refl, subst, ℕ, zero, suc, Bool, true, false}
use Rattle.std.proofs.Common.{◌||◌, List, [], ◌∷◌, ◌++◌, length, get_or, arith, eqb, ne_eqb, inl, inr}
use Rattle.std.specs.FinSet.{contains}
use Rattle.std.specs.List.{AllByRecursion, IsDistinct}
use Rattle.std.proofs.lemmas.Bool.{cases_lt, or_cases, or_left, or_right}
use Rattle.std.proofs.lemmas.Map.Keys.{IsDistinct-cons}
use Rattle.std.proofs.lemmas.Map.Steps.{length-le_from_distinct_below}
use Rattle.std.proofs.lemmas.Option.{slice_get-get_or}
use Rattle.thes_base.specs.declared.data.LinkKind.{LinkKind}
use Rattle.thes_base.specs.declared.data.LinkKind.TheVariants as kinds
use Rattle.thes_base.specs.Links.{Holds, IsBelow, LinkLeads, Links, NoCycle, Path}
use Rattle.thes_base.specs.Links as links_of
use Rattle.thes_base.specs.Listing.{IsListing}
use Rattle.thes_base.specs.Views.{HasBroader}
use Rattle.thes_base.proofs.ForwardingLemmas.{each_of, any_of, none_twice}
use Rattle.thes_core.proofs.DisplayLemmas.{same_scheme_within}
use Rattle.thes_display.specs.declared.walk.Types.{Types}
use Rattle.thes_display.specs.Order.{Term}
use Rattle.thes_display.specs.Hierarchical.{HasRank, IsNarrowerTerm, IsHome, IsTop, IsAway, AreTypes, EachHasOneHome}
use Rattle.thes_display.specs.Hierarchical.{HasOneHome}
use Rattle.thes_display.specs.HierarchyParts.{HaveOneRank, IsClosed}
use Rattle.thes_display.specs.Lines.{HasTypes, IsHomeward, IsTreeLine, IsPlaced, TreeLine, line_cmp, untyped}
use Rattle.thes_display.proofs.ChildLemmas.{one_types}
use Rattle.thes_display.proofs.HierarchyLemmas.{rank_within, one_concept, types_are, types_between}
use Rattle.thes_display.proofs.SchemeRankLemmas.{scheme_is_closed, rank_of, one_rank}

abbrev has_link_test : Links → LinkKind → ℕ → ℕ → Bool
has_link_test links kind a b = contains links (record { kind = kind; a = a; b = b })

-- Whether `b` is broader than `a`, by a link within their scheme.
abbrev is_broader : Links → ℕ → ℕ → Bool
is_broader links a b =
    has_link_test links kinds.Broader a b || (has_link_test links kinds.BroaderGeneric a b ||
    (has_link_test links kinds.BroaderPartitive a b || has_link_test links kinds.BroaderInstantial a b))

broader_from : (links : Links) (a b : ℕ) → is_broader links a b ≡ true → HasBroader links a b
broader_from links a b e = grind (arith, common_steps, or_cases)

-- The test `is_broader` passes for each broader concept.
broader_to : (links : Links) (a b : ℕ) → HasBroader links a b → is_broader links a b ≡ true
broader_to links a b h = grind (arith, common_steps, or_left, or_right)

-- The least number that passes a test.

abbrev HasLeast : (ℕ → Bool) → ℕ → Type 0
HasLeast test n = (b : ℕ) × (b < n) × (test b ≡ true) × ((c : ℕ) → c < n → test c ≡ true → b ≤ c)

abbrev HasNone : (ℕ → Bool) → ℕ → Type 0
HasNone test n = (b : ℕ) → b < n → test b ≡ true → ⊥

least_of : (test : ℕ → Bool) (n : ℕ) (t : Bool) → test n ≡ t → HasNone test n ⊎ HasLeast test n → HasNone test (suc n)
    ⊎ HasLeast test (suc n)
least_of test n t e (inr w) = grind (arith, common_steps, cases_lt)
least_of test n true e (inl none) = grind (arith, common_steps, cases_lt)
least_of test n false e (inl none) = grind (arith, common_steps, cases_lt)

least : (test : ℕ → Bool) (n : ℕ) → HasNone test n ⊎ HasLeast test n
least test zero = inl (λ b l f. absurd (omega (arith, l)))
least test (suc n) = least_of test n (test n) refl (least test n)

path_then : (S : ℕ → ℕ → Type 0) (x : ℕ) (ms : List ℕ) (y z : ℕ) → Path S x ms y → S y z → Path S x (ms ++ y ∷ []) z
path_then S x [] y z p q = (p, q)
path_then S x (m ∷ ms) y z p q = (p.0, path_then S m ms y z p.1 q)

no_term : Term
no_term = record { text = []; concept = 0 }

module _ (links : Links) (terms : List Term) (shut : IsClosed links terms) (cycle : NoCycle (Holds links)) where
  -- The concept with this rank.
  abbrev concept_of : ℕ → ℕ
  concept_of k = (get_or terms k no_term).concept

  rank_at : (k : ℕ) → k < length terms → HasRank terms (concept_of k) k
  rank_at k l = record { term = get_or terms k no_term; term_at = slice_get-get_or terms k no_term l; concept = refl }

  concept_is : (m k : ℕ) → HasRank terms m k → m ≡ concept_of k
  concept_is m k h = one_concept terms m (concept_of k) k h (rank_at k (rank_within terms m k h))

  -- If the rank `b` is broader than `k`, a link leads from the concept of `k` up to that of `b`.
  concepts_linked : (k b : ℕ) → IsNarrowerTerm links terms k b → HasBroader links (concept_of k) (concept_of b)
  concepts_linked k b r = subst (λ x. HasBroader links x (concept_of b)) (concept_is r.lower k r.lower_rank)
      (subst (λ y. HasBroader links r.lower y) (concept_is r.upper b r.upper_rank) r.link)

  -- A concept with a rank is a top concept, or has a home.
  top_or_home : (k : ℕ) → k < length terms → IsTop links terms k ⊎ ((b : ℕ) × IsHome links terms k b)
  top_or_home k l = elim (least (λ b. is_broader links (concept_of k) (concept_of b)) (length terms)) [
    | inl none ↦ inl (record {
      concept = concept_of k;
      rank = rank_at k l;
      none = λ m h.
          let up = shut.upward h.0 (concept_of k) m k h.1.0 h.2 (rank_at k l) in
          none up.0 (rank_within terms m up.0 up.1) (broader_to links (concept_of k) (concept_of up.0)
          (subst (λ y. HasBroader links (concept_of k) y) (concept_is m up.0 up.1) h));
    })
    | inr w ↦ inr (
      w.0,
      record {
        broader = record {
          lower = concept_of k;
          upper = concept_of w.0;
          lower_rank = rank_at k l;
          upper_rank = rank_at w.0 w.1;
          link = broader_from links (concept_of k) (concept_of w.0) w.2;
        };
        least = λ c r. w.3 c (rank_within terms r.upper c r.upper_rank)
            (broader_to links (concept_of k) (concept_of c) (concepts_linked k c r));
      },
    )
  ]

  -- The relation from a concept to its broader concepts.
  abbrev Step : ℕ → ℕ → Type 0
  Step = links_of.IsNarrower (Holds links)

  step : (k b : ℕ) → IsNarrowerTerm links terms k b → Step (concept_of k) (concept_of b)
  step k b r =
      let h = concepts_linked k b r in (
        record { kind = h.0; a = concept_of k; b = concept_of b },
        h.2,
        subst (λ w. LinkLeads w (concept_of k) (concept_of b) (concept_of k) (concept_of b)) (sym h.1.1) (refl, refl),
      )

  -- The concept with the rank `k` is above that with the rank `j`.
  abbrev IsUp : ℕ → ℕ → Type 0
  IsUp k j = (j < length terms) × IsBelow (Holds links) (concept_of j) (concept_of k)

  up_then : (k b j : ℕ) → IsNarrowerTerm links terms k b → IsUp k j → IsUp b j
  up_then k b j r (l, (ms, path)) =
      (l, (ms ++ concept_of k ∷ [], path_then Step (concept_of j) ms (concept_of k) (concept_of b) path (step k b r)))

  abbrev Homeward : List ℕ → Type 0
  Homeward = IsHomeward (IsTop links terms) (IsHome links terms) (IsAway links terms) (AreTypes links terms)

  not_seen : (k : ℕ) (seen : List ℕ) → AllByRecursion (IsUp k) seen → AllByRecursion (λ y. eqb k y ≡ false) seen
  not_seen k = each_of (IsUp k) (λ y. eqb k y ≡ false)
      (λ y up.
      ne_eqb k y (λ same. cycle.none (concept_of y) (subst (λ z. IsBelow (Holds links) (concept_of y) (concept_of z))
      same up.1)))

  path_from : (k : ℕ) → IsTop links terms k ⊎ ((b : ℕ) × IsHome links terms k b)
      → ((b : ℕ) → IsHome links terms k b → (up : List ℕ) × Homeward (b ∷ up)) → (up : List ℕ) × Homeward (k ∷ up)
  path_from k (inl top) next = ([], top)
  path_from k (inr (b, home)) next = let rest = next b home in (b ∷ rest.0, (home, rest.1))

  -- A path of homes leads from `k` up to a top concept. The search for it ends, since the ranks seen are all below `k`
  -- in the hierarchy, so that none is seen twice.
  find_top : (m : ℕ) (seen : List ℕ) (k : ℕ) → k < length terms → AllByRecursion (IsUp k) seen → IsDistinct eqb seen
      → length seen + m ≡ length terms → (up : List ℕ) × Homeward (k ∷ up)
  find_top zero seen k l ups distinct e =
      let most = length-le_from_distinct_below (k ∷ seen) (length terms)
      (IsDistinct-cons eqb k seen (not_seen k seen ups) distinct)
      (λ q has. any_of (λ y. y < length terms) q (k ∷ seen)
      (l, each_of (IsUp k) (λ y. y < length terms) (λ y up. up.0) seen ups) has) in
      absurd (omega (arith, most, e))
  find_top (suc m) seen k l ups distinct e = path_from k (top_or_home k l) (λ b home.
      let r = home.broader in
      find_top m (k ∷ seen) b (rank_within terms r.upper b r.upper_rank)
      ((l, ([], step k b r)), each_of (IsUp k) (IsUp b) (λ j up. up_then k b j r up) seen ups)
      (IsDistinct-cons eqb k seen (not_seen k seen ups) distinct) (omega (arith, e)))

  pub path_home : (k : ℕ) → k < length terms → (up : List ℕ) × Homeward (k ∷ up)
  path_home k l = find_top (length terms) [] k l tt none_twice (omega arith)

  abbrev HasTypesHere : Types → List ℕ → Type 0
  HasTypesHere = HasTypes (IsTop links terms) (IsHome links terms) (IsAway links terms) (AreTypes links terms)

  abbrev IsPlacedHere : Bool → List ℕ → Type 0
  IsPlacedHere = IsPlaced (IsTop links terms) (IsHome links terms) (IsAway links terms) (AreTypes links terms)

  no_home : (k b : ℕ) → IsTop links terms k → IsHome links terms k b → ⊥
  no_home k b top home =
      let r = home.broader in
      top.none r.upper
      (subst (λ m. HasBroader links m r.upper) (one_concept terms r.lower top.concept k r.lower_rank top.rank)
      r.link)

  -- A concept has only one path of homes.
  one_path : (u v : List ℕ) (k : ℕ) → Homeward (k ∷ u) → Homeward (k ∷ v) → u ≡ v
  one_path [] [] k p q = refl
  one_path [] (c ∷ v) k p q = absurd (no_home k c p q.0)
  one_path (b ∷ u) [] k p q = absurd (no_home k b q p.0)
  one_path (b ∷ u) (c ∷ v) k p q =
      let l = p.0.least c q.0.broader in
      let m = q.0.least b p.0.broader in
      let same : b ≡ c = omega (arith, l, m) in
      let rest = one_path u v b p.1 (subst (λ z. Homeward (z ∷ v)) (sym same) q.1) in
      λ i. same i ∷ rest i

  types_on : (k : ℕ) (up : List ℕ) → Homeward (k ∷ up) → (types : Types) × HasTypesHere types (k ∷ up)
  types_on k [] p = (untyped, refl)
  types_on k (b ∷ up) p = let r = p.0.broader in (types_between links r.lower r.upper, types_are links terms k b r)

  same_types : (k : ℕ) (up : List ℕ) (x y : Types) → HasTypesHere x (k ∷ up) → HasTypesHere y (k ∷ up) → x ≡ y
  same_types k [] x y p q = p ∙ sym q
  same_types k (b ∷ up) x y p q = one_types links terms b k x y p q

  -- Each concept with a rank has exactly one line at home.
  pub home_line : HaveOneRank terms → (lines : List TreeLine)
      → IsListing line_cmp (IsTreeLine (IsTop links terms) (IsHome links terms) (IsAway links terms)
      (AreTypes links terms)) lines
      → (m k : ℕ) → HasRank terms m k → HasOneHome terms lines m
  home_line one lines listed m k h =
      let way = path_home k (rank_within terms m k h) in
      let types = types_on k way.0 way.1 in
      record {
        line = record { rank = k; above = way.0; types = types.0; at_home = true };
        there = listed.complete (record { rank = k; above = way.0; types = types.0; at_home = true }) (way.1, types.1);
        shows = h;
        at_home = refl;
        unique = λ other c shows home.
            let is = listed.sound other c in
            let rank : other.rank ≡ k = one.one m other.rank k shows h in
            let placed : Homeward (other.rank ∷ other.above) = subst (λ b. IsPlacedHere b (other.rank ∷ other.above))
            home is.0 in
            let up : other.above ≡ way.0 =
            one_path other.above way.0 k (subst (λ z. Homeward (z ∷ other.above)) rank placed) way.1 in
            let typed : HasTypesHere other.types (k ∷ way.0) = subst (λ u. HasTypesHere other.types (k ∷ u)) up
            (subst (λ z. HasTypesHere other.types (z ∷ other.above)) rank is.1) in
            let same = same_types k way.0 other.types types.0 typed types.1 in
            λ i. record { rank = rank i; above = up i; types = same i; at_home = home i };
      }

pub one_home : EachHasOneHome
one_home base s scheme tag text legal d m shown =
    let rank = rank_of s scheme tag d.terms d.are_terms m shown in
    home_line s.links d.terms (scheme_is_closed s scheme tag d.terms d.are_terms
    (same_scheme_within s base legal scheme))
    legal.links.no_cycle
    (one_rank s scheme tag d.terms d.are_terms) d.lines d.are_lines m rank.0 rank.1
