-- Two searches, one from each end of a link, decide whether a chain leads from the first end to the second. They make
-- at most two visits for each link near the first end.
use Rattle.std.proofs.Common.{◌≡◌, ◌≢◌, ◌+◌, ◌-◌, ◌≤◌, ◌<◌, ◌⊎◌, inl, inr, ℕ, [], ◌∷◌, length, sym}
use Rattle.std.proofs.Common.{arith, Bool, true, false, refl}
use Rattle.std.specs.Bool.{MatchBool}
use Rattle.thes_base.specs.declared.data.Link.{Link}
use Rattle.thes_base.specs.Links.{Links, Holds, Chain, IsNarrower}
use Rattle.thes_links.specs.Rules.{ReachesUp}
use Rattle.thes_walks.specs.PairedSearch.{HasEndAbove, HasNoEndAbove}
use Rattle.thes_base.proofs.ListMemberLemmas.{Contains-head}
use Rattle.thes_links.specs.declared.relation.Relation.{Relation}
use Rattle.thes_links.specs.declared.relation.Relation.TheVariants.{Broader, Narrower}
use Rattle.thes_links.specs.declared.edit.LinkEdit.TheVariants.{NoEdit}
use Rattle.thes_walks.specs.declared.side_search.SideSearch.{SideSearch}
use Rattle.thes_links.specs.Steps.{Steps}
use Rattle.thes_walks.specs.SideSearch.{IsHierarchy, IsSideSearch, LeadsTo, ContinuesSearch}
use Rattle.thes_walks.specs.PairedSearch.{converse, AreVisitsBounded, ArePairedSearches, HasFoundChain}
use Rattle.thes_links.proofs.PivotLemmas.{Chain-turn, Chain-then_reach, Reaches-then_chain, Reaches-turn}
use Rattle.thes_walks.proofs.ProbeLemmas.{narrower_from, narrower_to}
use Rattle.thes_walks.proofs.AdvanceLemmas.{IsSideSearch-start, IsSideSearch-paid, IsSideSearch-no_goal, has_start}

pub converse_is_hierarchy : (r : Relation) → IsHierarchy r → IsHierarchy (converse r)
converse_is_hierarchy Broader walked = tt
converse_is_hierarchy Narrower walked = tt
converse_is_hierarchy _ walked = absurd walked

module _ (held : Links) where
  step_back : (r : Relation) → IsHierarchy r → (x y : ℕ) → Steps r (Holds held) x y
      → Steps (converse r) (Holds held) y x
  step_back Broader walked x y = narrower_to (Holds held) x x y
  step_back Narrower walked x y = narrower_from (Holds held) x x y
  step_back _ walked x y = absurd walked

  back_step : (r : Relation) → IsHierarchy r → (x y : ℕ) → Steps (converse r) (Holds held) x y
      → Steps r (Holds held) y x
  back_step Broader walked x y = narrower_from (Holds held) x x y
  back_step Narrower walked x y = narrower_to (Holds held) x x y
  back_step _ walked x y = absurd walked

  module _ (relation : Relation) (walked : IsHierarchy relation) where
    chain_back : (x y : ℕ) → Chain (Steps relation (Holds held)) x y
        → Chain (Steps (converse relation) (Holds held)) y x
    chain_back = Chain-turn (Steps relation (Holds held)) (Steps (converse relation) (Holds held))
        (step_back relation walked)

    back_chain : (x y : ℕ) → Chain (Steps (converse relation) (Holds held)) x y
        → Chain (Steps relation (Holds held)) y x
    back_chain = Chain-turn (Steps (converse relation) (Holds held)) (Steps relation (Holds held))
        (back_step relation walked)

    module _ (from to before : ℕ) where
      -- If the first search leads to a node that the second has met, or the other way round, a chain leads from one end
      -- to the other.
      met_first : (second : SideSearch) (b : ℕ) → IsSideSearch NoEdit held (converse relation) (from ∷ []) to second b
          → LeadsTo NoEdit held relation second.nodes from → Chain (Steps relation (Holds held)) from to
      met_first second b two (y, has, chain) =
          Chain-then_reach (Steps relation (Holds held)) from y to chain
          (Reaches-turn (Steps (converse relation) (Holds held)) (Steps relation (Holds held))
          (back_step relation walked) to y (two.closed.sound y has))

      met_second : (first : SideSearch) (a : ℕ) → IsSideSearch NoEdit held relation (to ∷ []) from first a
          → LeadsTo NoEdit held (converse relation) first.nodes to → Chain (Steps relation (Holds held)) from to
      met_second first a one (y, has, chain) =
          Reaches-then_chain (Steps relation (Holds held)) from y to (one.closed.sound y has) (back_chain to y chain)

      pub ArePairedSearches-start : (first second : SideSearch) → first.nodes ≡ from ∷ [] → first.next ≡ 0
          → second.nodes ≡ to ∷ [] → second.next ≡ 0
          → ArePairedSearches held relation from to first second 0 before before
      ArePairedSearches-start first second f i s j = (
        0,
        0,
        IsSideSearch-start NoEdit held relation (to ∷ []) from first f i,
        IsSideSearch-start NoEdit held (converse relation) (from ∷ []) to second s j,
        omega arith,
        omega arith,
      )

      -- A turn of the first search keeps the state of the two, or finds a chain.
      pub first_turn : (first later second : SideSearch) (left more count after : ℕ) (met : Bool) → more ≤ left
          + (after - count)
          → ContinuesSearch NoEdit held relation second.nodes first later (after - count) met
          → ArePairedSearches held relation from to first second left before count
          → MatchBool met (HasFoundChain held relation from to before after)
          (ArePairedSearches held relation from to later second more before after)
      first_turn first later second left more count after true room advances (a, b, one, two, within, paid) =
          let on = advances (to ∷ []) (has_start NoEdit held (converse relation) (from ∷ []) to second b two) from a
          one in
          (met_first second b two on.0, λ ns covers. omega (arith, on.1 ns covers, within, paid))
      first_turn first later second left more count after false room advances (a, b, one, two, within, paid) = (
        a + (after - count),
        b,
        advances (to ∷ []) (has_start NoEdit held (converse relation) (from ∷ []) to second b two) from a one,
        two,
        omega (arith, within, room),
        omega (arith, paid),
      )

      -- A turn of the second search keeps the state of the two, or finds a chain.
      pub second_turn : (first second later : SideSearch) (left more count after : ℕ) (met : Bool) → more ≤ left
          → after ≤ count + (left - more)
          → ContinuesSearch NoEdit held (converse relation) first.nodes second later (left - more) met
          → ArePairedSearches held relation from to first second left before count
          → MatchBool met (HasFoundChain held relation from to before after)
          (ArePairedSearches held relation from to first later more before after)
      second_turn first second later left more count after true room cost advances (a, b, one, two, within, paid) =
          let on = advances (from ∷ []) (has_start NoEdit held relation (to ∷ []) from first a one) to b two in (
            met_second first a one on.0,
            λ ns covers. omega (
              arith,
              IsSideSearch-paid NoEdit held relation (to ∷ []) from walked first a one ns covers,
              within,
              paid,
              cost,
              room,
            ),
          )
      second_turn first second later left more count after false room cost advances (a, b, one, two, within, paid) = (
        a,
        b + (left - more),
        one,
        advances (from ∷ []) (has_start NoEdit held relation (to ∷ []) from first a one) to b two,
        omega (arith, within, room),
        omega (arith, paid, cost),
      )

      module _ (first second : SideSearch) (left after : ℕ) where
        abbrev Ended : Type 0
        Ended = ArePairedSearches held relation from to first second left before after

        -- If one search is done without a goal, no chain leads from one end to the other.
        none_from : (length first.nodes ≤ first.next) ⊎ (length second.nodes ≤ second.next) → Ended
            → Chain (Steps relation (Holds held)) from to → ⊥
        none_from (inl done) (a, b, one, two, within, paid) chain =
            IsSideSearch-no_goal NoEdit held relation (to ∷ []) from first a done one (to, Contains-head to [], chain)
        none_from (inr done) (a, b, one, two, within, paid) chain =
            IsSideSearch-no_goal NoEdit held (converse relation) (from ∷ []) to second b done two
            (from, Contains-head from [], chain_back from to chain)

        -- The two searches decide whether a chain leads from one end to the other.
        pub PairedSearch-chain : (met : Bool) → (met ≡ false → first.next < length first.nodes → length second.nodes
            ≤ second.next) → MatchBool met (HasFoundChain held relation from to before after) Ended
            → MatchBool met (Chain (Steps relation (Holds held)) from to)
            (Chain (Steps relation (Holds held)) from to → ⊥)
        PairedSearch-chain true done found = found.0
        PairedSearch-chain false done ended = none_from (which first.next (length first.nodes) (done refl)) ended
          where
            which : (i n : ℕ) → (i < n → length second.nodes ≤ second.next) → (n ≤ i)
                ⊎ (length second.nodes ≤ second.next)
            which i n then = elim (within i n) [ inl past ↦ inl past | inr more ↦ inr (then more) ]
              where
                within : (i n : ℕ) → (n ≤ i) ⊎ (i < n)
                within i n = grind arith

        pub PairedSearch-paid : (met : Bool) → MatchBool met (HasFoundChain held relation from to before after) Ended
            → AreVisitsBounded held relation from before after
        PairedSearch-paid true found ns covers = found.1 ns covers
        PairedSearch-paid false (a, b, one, two, within, paid) ns covers =
            omega (
              arith,
              IsSideSearch-paid NoEdit held relation (to ∷ []) from walked first a one ns covers,
              within,
              paid,
            )

-- Chains from either end decide whether one end of a link is above the other.
module _ (Held : Link → Type 0) (l : Link) where
  pub first_above : Chain (Steps Broader Held) l.a l.b → HasEndAbove Held l
  first_above chain = inl (inr chain)

  -- One end of a link is above the other exactly when a chain of broader or narrower links leads from the first to the
  -- second.
  pub then_above : l.a ≢ l.b → (Chain (Steps Broader Held) l.a l.b → ⊥) → (found : Bool)
      → MatchBool found (Chain (Steps Narrower Held) l.a l.b) (Chain (Steps Narrower Held) l.a l.b → ⊥)
      → MatchBool found (HasEndAbove Held l) (HasNoEndAbove Held l)
  then_above two off true chain =
      inr (inr (Chain-turn (Steps Narrower Held) (IsNarrower Held) (narrower_from Held l.a) l.a l.b chain))
  then_above two off false none = (up, down)
    where
      up : ReachesUp Held l.a l.b → ⊥
      up (inl same) = two same
      up (inr chain) = off chain

      down : ReachesUp Held l.b l.a → ⊥
      down (inl same) = two (sym same)
      down (inr chain) = none (Chain-turn (IsNarrower Held) (Steps Narrower Held) (narrower_to Held l.a) l.b l.a chain)
