-- Two alternating searches, up from the high node and down from the low one, find what a link up would break. They make
-- at most four visits for each link at a node that one of them can reach.
use Rattle.std.proofs.Common.{◌≡◌, ◌+◌, ◌-◌, ◌*◌, ◌≤◌, inl, inr, ℕ, List, [], ◌∷◌, length, arith}
use Rattle.std.proofs.Common.{Contains, Bool, true, false, Option, Some, None, ap, take, get_or}
use Rattle.std.proofs.lemmas.List.{take_all}
use Rattle.std.proofs.lemmas.List.Elements.{Contains-get_or}
use Rattle.std.specs.Bool.{MatchBool}
use Rattle.thes_base.specs.declared.data.Link.{Link}
use Rattle.thes_base.specs.declared.fault.Refusal.{Refusal}
use Rattle.thes_base.specs.declared.fault.Refusal.TheVariants as no
use Rattle.thes_base.specs.Links.{Links, Chain, IsNarrower, IsBelow}
use Rattle.thes_base.proofs.ListMemberLemmas.{Contains-head}
use Rattle.thes_links.specs.declared.relation.Relation.{Relation}
use Rattle.thes_links.specs.declared.relation.Relation.TheVariants.{Broader, Narrower}
use Rattle.thes_links.specs.declared.side.Side.TheVariants.{Sideways}
use Rattle.thes_links.specs.declared.edit.LinkEdit.{LinkEdit}
use Rattle.thes_walks.specs.declared.side_search.SideSearch.{SideSearch}
use Rattle.thes_links.specs.Side.{side_in}
use Rattle.thes_links.specs.LinkEdit.{HeldAfter, CoversAt}
use Rattle.thes_links.specs.Steps.{Steps, Reaches}
use Rattle.thes_walks.specs.SideSearch.{read_cost, IsHierarchy, IsSideSearch, LeadsTo, ContinuesSearch}
use Rattle.thes_walks.specs.SideSearch.{AreAlternating, HasFoundCycle, IsSecondResult, IsBrokenBetween, CoversBetween}
use Rattle.thes_links.proofs.PivotLemmas.{Chain-turn, Chain-then_reach, Reaches-then_chain}
use Rattle.thes_walks.proofs.ProbeLemmas.{narrower_from, narrower_to, below_from, below_to}
use Rattle.thes_walks.proofs.KindLemmas.{related_turns}
use Rattle.thes_walks.proofs.ReadCostLemmas.{spent_two}
use Rattle.thes_walks.proofs.AdvanceLemmas.{IsSideSearch-start, IsSideSearch-paid, IsSideSearch-reach}
use Rattle.thes_walks.proofs.AdvanceLemmas.{IsSideSearch-no_goal, leads_one_way, has_start}

module _ (edit : LinkEdit) (held : Links) where
  abbrev Would : Link → Type 0
  Would = HeldAfter edit held

  module _ (low high : ℕ) (ns : List Link) (covers : CoversBetween edit held low high ns) where
    pub covers_up : (n : ℕ) → Reaches (Steps Broader Would) high n → CoversAt edit held n ns
    covers_up n r = covers n (inr r)

    pub covers_down : (n : ℕ) → Reaches (Steps Narrower Would) low n → CoversAt edit held n ns
    covers_down n r = covers n (inl (below_from Would low n r))

  -- If the search up leads to a node that the search down has met, or the other way round, a chain leads from the high
  -- node up to the low one.
  module _ (low high : ℕ) where
    pub met_up : (down : SideSearch) (b : ℕ) → IsSideSearch edit held Narrower (high ∷ []) low down b
        → LeadsTo edit held Broader down.nodes high → IsBelow Would high low
    met_up down b is (y, has, chain) =
        Chain-then_reach (IsNarrower Would) high y low chain (below_from Would low y (is.closed.sound y has))

    pub met_down : (up : SideSearch) (a : ℕ) → IsSideSearch edit held Broader (low ∷ []) high up a
        → LeadsTo edit held Narrower up.nodes low → IsBelow Would high low
    met_down up a is (y, has, chain) =
        Reaches-then_chain (IsNarrower Would) high y low (is.closed.sound y has)
        (Chain-turn (Steps Narrower Would) (IsNarrower Would) (narrower_from Would low) low y chain)

  -- Assumes the state of both searches.
  module _ (low high from : ℕ) (up down : SideSearch) where
    pub AreAlternating-start : (count : ℕ) → up.nodes ≡ high ∷ [] → up.next ≡ 0 → down.nodes ≡ low ∷ [] → down.next
        ≡ 0 → AreAlternating edit held low high up down count count
    AreAlternating-start count u i d j = (
      0,
      0,
      IsSideSearch-start edit held Broader (low ∷ []) high up u i,
      IsSideSearch-start edit held Narrower (high ∷ []) low down d j,
      omega arith,
    )

    pub turn_up : (later : SideSearch) (before count : ℕ) (found : Bool)
        → ContinuesSearch edit held Broader down.nodes up later (count - before) found
        → AreAlternating edit held low high up down from before
        → MatchBool found (HasFoundCycle edit held low high from count)
        (AreAlternating edit held low high later down from count)
    turn_up later before count true advances (a, b, u, d, paid) =
        let on = advances (low ∷ []) (has_start edit held Narrower (high ∷ []) low down b d) high a u in (
          met_up low high down b d on.0,
          λ ns covers. omega (
            arith,
            paid,
            on.1 ns (covers_up low high ns covers),
            IsSideSearch-paid edit held Narrower (high ∷ []) low tt down b d ns (covers_down low high ns covers),
          ),
        )
    turn_up later before count false advances (a, b, u, d, paid) = (
      a + (count - before),
      b,
      advances (low ∷ []) (has_start edit held Narrower (high ∷ []) low down b d) high a u,
      d,
      omega (arith, paid),
    )

    pub turn_down : (later : SideSearch) (before count : ℕ) (found : Bool)
        → ContinuesSearch edit held Narrower up.nodes down later (count - before) found
        → AreAlternating edit held low high up down from before
        → MatchBool found (HasFoundCycle edit held low high from count)
        (AreAlternating edit held low high up later from count)
    turn_down later before count true advances (a, b, u, d, paid) =
        let on = advances (high ∷ []) (has_start edit held Broader (low ∷ []) high up a u) low b d in (
          met_down low high up a u on.0,
          λ ns covers. omega (
            arith,
            paid,
            on.1 ns (covers_down low high ns covers),
            IsSideSearch-paid edit held Broader (low ∷ []) high tt up a u ns (covers_up low high ns covers),
          ),
        )
    turn_down later before count false advances (a, b, u, d, paid) = (
      a,
      b + (count - before),
      u,
      advances (high ∷ []) (has_start edit held Broader (low ∷ []) high up a u) low b d,
      omega (arith, paid),
    )

  -- A chain of broader concepts, read backwards, is a chain of narrower ones.
  chain_down : (low high : ℕ) → IsBelow Would high low → Chain (Steps Narrower Would) low high
  chain_down low high = Chain-turn (IsNarrower Would) (Steps Narrower Would) (narrower_to Would low) high low

  -- Assumes that the search up is done: the result of the search down then decides what the link breaks.
  module _ (low high : ℕ) (up down : SideSearch) (a : ℕ) (done : length up.nodes ≤ up.next)
      (is : IsSideSearch edit held Broader (low ∷ []) high up a) where
    off_up : IsBelow Would high low → ⊥
    off_up above = IsSideSearch-no_goal edit held Broader (low ∷ []) high up a done is (
      low,
      Contains-head low [],
      above,
    )

    pub broken_up : (rest : Option Refusal) → IsSecondResult edit held Narrower up.nodes low rest
        → IsBrokenBetween Would low high rest
    broken_up None apart = (
      off_up,
      λ x y to from related. apart y x ((IsSideSearch-reach edit held Broader (low ∷ []) high up a done is).complete y
          from) (below_to Would low x to) (related_turns Would x y related),
    )
    broken_up (Some no.Cycle) leads = met_down low high up a is leads
    broken_up (Some no.S27) (x, y, has, reach, related) = (
      off_up,
      (
        y,
        x,
        below_from Would low y reach,
        (IsSideSearch-reach edit held Broader (low ∷ []) high up a done is).sound x
            has,
        related_turns Would x y related,
      ),
    )
    broken_up (Some _) h = absurd h

  -- Assumes that the search down is done: the result of the search up then decides what the link breaks.
  module _ (low high : ℕ) (down : SideSearch) (b : ℕ) (done : length down.nodes ≤ down.next)
      (is : IsSideSearch edit held Narrower (high ∷ []) low down b) where
    off_down : IsBelow Would high low → ⊥
    off_down above = IsSideSearch-no_goal edit held Narrower (high ∷ []) low down b done is
        (high, Contains-head high [], chain_down low high above)

    pub broken_down : (rest : Option Refusal) → IsSecondResult edit held Broader down.nodes high rest
        → IsBrokenBetween Would low high rest
    broken_down None apart = (
      off_down,
      λ x y to from related.
          apart x y ((IsSideSearch-reach edit held Narrower (high ∷ []) low down b done is).complete x
          (below_to Would low x to)) from related,
    )
    broken_down (Some no.Cycle) leads = met_up low high down b is leads
    broken_down (Some no.S27) (x, y, has, reach, related) = (
      off_down,
      (
        x,
        y,
        below_from Would low x ((IsSideSearch-reach edit held Narrower (high ∷ []) low down b done is).sound x
            has),
        reach,
        related,
      ),
    )
    broken_down (Some _) h = absurd h

  -- A search that is done, and reading the related links at its nodes, take together at most two visits for each link.
  pub done_cost : (relation : Relation) → IsHierarchy relation → (goals : List ℕ) (start : ℕ)
      (side_search : SideSearch) (read : ℕ) → length side_search.nodes ≤ side_search.next
      → IsSideSearch edit held relation goals start side_search read → (ns : List Link)
      → ((n : ℕ) → Reaches (Steps relation Would) start n → CoversAt edit held n ns)
      → read + read_cost edit Sideways side_search.nodes ns ≤ 2 * length ns
  done_cost relation walked goals start side_search read done is ns covers =
      let whole : take side_search.next side_search.nodes ≡ side_search.nodes =
      take_all side_search.next side_search.nodes done in
      let paid : read ≤ read_cost edit (side_in relation) (take side_search.next side_search.nodes) ns =
      is.cost ns
      (λ k lt. covers (get_or side_search.nodes k 0) (is.closed.sound (get_or side_search.nodes k 0)
      (Contains-get_or side_search.nodes k 0 (omega (arith, lt, is.in_range))))) in
      let both : read_cost edit (side_in relation) side_search.nodes ns + read_cost edit Sideways side_search.nodes ns
      ≤ 2 * length ns =
      spent_two edit (side_in relation) Sideways (leads_one_way relation walked) side_search.nodes is.closed.distinct
      ns in
      omega (arith, paid, both, ap (λ nodes. read_cost edit (side_in relation) nodes ns) whole)

  module _ (low high : ℕ) (lows highs : List ℕ) (up down : SideSearch) (a b from before after : ℕ)
      (paid : before ≤ from + a + b) where
    -- Bounds the total number of visits if the search up was done first.
    pub up_cost : length up.nodes ≤ up.next → IsSideSearch edit held Broader lows high up a
        → ((ns : List Link) → ((n : ℕ) → Reaches (Steps Narrower Would) low n → CoversAt edit held n ns)
        → ((n : ℕ) → Contains up.nodes n → CoversAt edit held n ns)
        → b + after ≤ before + 2 * length ns + read_cost edit Sideways up.nodes ns)
        → (ns : List Link) → CoversBetween edit held low high ns → after ≤ from + 4 * length ns
    up_cost done is rest ns covers =
        omega (
          arith,
          paid,
          done_cost Broader tt lows high up a done is ns (covers_up low high ns covers),
          rest ns (covers_down low high ns covers) (λ n has. covers_up low high ns covers n (is.closed.sound n has)),
        )

    -- Bounds the total number of visits if the search down was done first.
    pub down_cost : length down.nodes ≤ down.next → IsSideSearch edit held Narrower highs low down b
        → ((ns : List Link) → ((n : ℕ) → Reaches (Steps Broader Would) high n → CoversAt edit held n ns)
        → ((n : ℕ) → Contains down.nodes n → CoversAt edit held n ns)
        → a + after ≤ before + 2 * length ns + read_cost edit Sideways down.nodes ns)
        → (ns : List Link) → CoversBetween edit held low high ns → after ≤ from + 4 * length ns
    down_cost done is rest ns covers =
        omega (
          arith,
          paid,
          done_cost Narrower tt highs low down b done is ns (covers_down low high ns covers),
          rest ns (covers_up low high ns covers) (λ n has. covers_down low high ns covers n (is.closed.sound n has)),
        )
