-- The kind of a new link, and the links at its ends, decide which rules it can break.
use Rattle.std.proofs.Common.{◌≡◌, ◌≢◌, ◌⊎◌, inl, inr, ℕ, List, [], ◌∷◌, refl, sym, ap, subst, ◌∙◌, Option, Some, None}
use Rattle.thes_base.specs.declared.data.Link.{Link}
use Rattle.thes_base.specs.declared.data.LinkKind.{LinkKind}
use Rattle.thes_base.specs.declared.data.Direction.{Direction}
use Rattle.thes_base.specs.declared.data.Direction.TheVariants.{Forward, Backward, Either, Never}
use Rattle.thes_base.specs.Links.{broader_direction, related_direction, exact_direction, disjoint_direction}
use Rattle.thes_base.specs.Links.{LinkLeads, Path, Chain, IsJoined, IsNarrower, IsBelow, IsRelated, NoCycle, S27, S46}
use Rattle.thes_base.specs.Links.{IsFirstBroken}
use Rattle.thes_base.specs.declared.data.LinkKind.TheVariants as kinds
use Rattle.thes_links.specs.declared.relation.Relation.TheVariants.{Broader, Narrower, Related}
use Rattle.thes_links.specs.Steps.{Steps, Reaches}
use Rattle.thes_links.specs.Rules.{BreakNone, ReachesUp, IsNearPivot, IsFirstOfCycleAndS27}
use Rattle.thes_walks.specs.PairedSearch.{HasEndAbove, HasNoEndAbove}
use Rattle.thes_walks.specs.SideSearch.{IsBrokenBetween}
use Rattle.thes_base.specs.declared.fault.Refusal.{Refusal}
use Rattle.thes_base.specs.declared.fault.Refusal.TheVariants as no
use Rattle.thes_walks.proofs.ProbeLemmas.{Path-last, narrower_to}
use Rattle.thes_links.proofs.PivotLemmas.{Chain-join, Chain-map, Reaches-map, Chain-one, Chain-then_reach}
use Rattle.thes_links.proofs.PivotLemmas.{Reaches-then_chain}

turn_either : (k : LinkKind) (a b x y : ℕ) → LinkLeads (related_direction k) a b x y → LinkLeads (related_direction k)
    a b y x
turn_either kinds.Related a b x y (inl (e, f)) = inr (f, e)
turn_either kinds.Related a b x y (inr (e, f)) = inl (f, e)
turn_either kinds.RelMatch a b x y (inl (e, f)) = inr (f, e)
turn_either kinds.RelMatch a b x y (inr (e, f)) = inl (f, e)
turn_either _ a b x y h = absurd h

pub related_turns : (Held : Link → Type 0) (x y : ℕ) → IsRelated Held x y → IsRelated Held y x
related_turns Held x y (l, held, leads) = (l, held, turn_either l.kind l.a l.b x y leads)

-- A chain in a relation to which one step was added either doesn't use that step, or reaches its start and continues
-- from its end.
module _ (S T : ℕ → ℕ → Type 0) (low high : ℕ) (cases : (x y : ℕ) → T x y → S x y ⊎ ((low ≡ x) × (high ≡ y))) where
  path_split : (x : ℕ) (ms : List ℕ) (y : ℕ) → Path T x ms y → Chain S x y ⊎ (Reaches S x low × Reaches S high y)
  path_split x [] y one =
      elim (cases x y one) [ inl old ↦ inl (Chain-one S x y old) | inr (a, b) ↦ inr (inl (sym a), inl b) ]
  path_split x (m ∷ ms) y path = go (cases x m path.0) (path_split m ms y path.1)
    where
      go : S x m ⊎ ((low ≡ x) × (high ≡ m)) → Chain S m y ⊎ (Reaches S m low × Reaches S high y) → Chain S x y
          ⊎ (Reaches S x low × Reaches S high y)
      go (inl old) (inl rest) = inl (Chain-join S x m y (Chain-one S x m old) rest)
      go (inl old) (inr (to, from)) = inr (inr (Chain-then_reach S x m low (Chain-one S x m old) to), from)
      go (inr (a, b)) (inl rest) = inr (inl (sym a), inr (subst (λ (w : ℕ). Chain S w y) (sym b) rest))
      go (inr (a, b)) (inr (to, from)) = inr (inl (sym a), from)

  pub chain_split : (x y : ℕ) → Chain T x y → Chain S x y ⊎ (Reaches S x low × Reaches S high y)
  chain_split x y (ms, path) = path_split x ms y path

module _ (Held : Link → Type 0) (new : Link) where
  abbrev WithLink : Link → Type 0
  WithLink l = Held l ⊎ (new ≡ l)

  -- A new link that has no part in a relation doesn't change the relation.
  kept : (way : LinkKind → Direction) → way new.kind ≡ Never → (x y : ℕ) → IsJoined WithLink way x y
      → IsJoined Held way x y
  kept way never x y (l, inl held, leads) = (l, held, leads)
  kept way never x y (l, inr same, leads) =
      absurd (subst (λ (d : Direction). LinkLeads d l.a l.b x y) (ap (λ (w : Link). way w.kind) (sym same) ∙ never)
      leads)

  more : (way : LinkKind → Direction) (x y : ℕ) → IsJoined Held way x y → IsJoined WithLink way x y
  more way x y (l, held, leads) = (l, inl held, leads)

  chain_kept : (way : LinkKind → Direction) → way new.kind ≡ Never → (x y : ℕ) → Chain (IsJoined WithLink way) x y
      → Chain (IsJoined Held way) x y
  chain_kept way never = Chain-map (IsJoined WithLink way) (IsJoined Held way) (kept way never)

  pub no_cycle_kept : broader_direction new.kind ≡ Never → NoCycle Held → NoCycle WithLink
  no_cycle_kept up legal = record { none = λ x above. legal.none x (chain_kept broader_direction up x x above) }

  pub s27_kept : broader_direction new.kind ≡ Never → related_direction new.kind ≡ Never → S27 Held → S27 WithLink
  s27_kept up beside legal =
      record {
        none = λ x y related above. legal.none x y (kept related_direction beside x y related)
            (chain_kept broader_direction up x y above);
      }

  pub s46_kept : exact_direction new.kind ≡ Never → disjoint_direction new.kind ≡ Never → S46 Held → S46 WithLink
  s46_kept alike apart legal =
      record {
        none = λ x y exact off. legal.none x y (chain_kept exact_direction alike x y exact)
            (kept disjoint_direction apart x y off);
      }

  -- Assumes that the new link leads from its low end up to its high end.
  module _ (low high : ℕ) (two : low ≢ high) (no_others : (x y : ℕ) → LinkLeads (broader_direction new.kind) new.a
      new.b x y → (low ≡ x) × (high ≡ y))
      (there : LinkLeads (broader_direction new.kind) new.a new.b low high) where
    step_cases : (x y : ℕ) → IsNarrower WithLink x y → IsNarrower Held x y ⊎ ((low ≡ x) × (high ≡ y))
    step_cases x y (l, inl held, leads) = inl (l, held, leads)
    step_cases x y (l, inr same, leads) =
        let P : Link → Type 0 = λ w. LinkLeads (broader_direction w.kind) w.a w.b x y in
        inr (no_others x y (subst P (sym same) leads))

    new_step : IsNarrower WithLink low high
    new_step = (new, inr refl, there)

    split : (x y : ℕ) → IsBelow WithLink x y → IsBelow Held x y ⊎ (ReachesUp Held x low × ReachesUp Held high y)
    split = chain_split (IsNarrower Held) (IsNarrower WithLink) low high step_cases

    round : (x : ℕ) → ReachesUp Held x low → ReachesUp Held high x → IsBelow Held high low
    round x (inl same) (inl also) = absurd (two (sym (also ∙ same)))
    round x (inl same) (inr from) = subst (λ (w : ℕ). IsBelow Held high w) same from
    round x (inr to) from = Reaches-then_chain (IsNarrower Held) high x low from to

    cycle_closed : IsBelow Held high low → IsBelow WithLink low low
    cycle_closed above =
        Chain-join (IsNarrower WithLink) low high low (Chain-one (IsNarrower WithLink) low high new_step)
        (Chain-map (IsNarrower Held) (IsNarrower WithLink) (more broader_direction) high low above)

    pub no_cycle_up : (IsBelow Held high low → ⊥) → NoCycle Held → NoCycle WithLink
    no_cycle_up off legal =
        record {
          none = λ x above. elim (split x x above) [
            | inl old ↦ legal.none x old
            | inr (to, from) ↦ off (round x to from)
          ];
        }

    pub s27_up : related_direction new.kind ≡ Never → ((x y : ℕ) → ReachesUp Held x low → ReachesUp Held high y
        → IsRelated Held x y → ⊥) → S27 Held → S27 WithLink
    s27_up beside off legal = record {
      none = λ x y related above.
          let old = kept related_direction beside x y related in
          elim (split x y above) [ inl chain ↦ legal.none x y old chain | inr (to, from) ↦ off x y to from old ];
    }

    up_with : (x y : ℕ) → ReachesUp Held x y → ReachesUp WithLink x y
    up_with = Reaches-map (IsNarrower Held) (IsNarrower WithLink) (more broader_direction)

    -- The new link makes each node at or above its high end broader than each node at or below its low end.
    over : (x y : ℕ) → ReachesUp Held x low → ReachesUp Held high y → IsBelow WithLink x y
    over x y to from =
        Chain-then_reach (IsNarrower WithLink) x high y
        (Reaches-then_chain (IsNarrower WithLink) x low high (up_with x low to)
        (Chain-one (IsNarrower WithLink) low high new_step))
        (up_with high y from)

    -- The rule that a link from the low end up to the high one breaks is the first that the links with the new one
    -- break.
    pub IsFirstOfCycleAndS27-between : related_direction new.kind ≡ Never → NoCycle Held → S27 Held
        → (r : Option Refusal)
        → IsBrokenBetween Held low high r → IsFirstOfCycleAndS27 WithLink r
    IsFirstOfCycleAndS27-between beside cycle s27 None (off, pair) = (no_cycle_up off cycle, s27_up beside pair s27)
    IsFirstOfCycleAndS27-between beside cycle s27 (Some no.Cycle) above = (low, cycle_closed above)
    IsFirstOfCycleAndS27-between beside cycle s27 (Some no.S27) (off, found) = (
      no_cycle_up off cycle,
      (
        found.0,
        found.1,
        more related_direction found.0 found.1 found.4,
        over found.0 found.1 found.2 found.3,
      ),
    )
    IsFirstOfCycleAndS27-between beside cycle s27 (Some _) h = absurd h

    -- The nodes at or below the low end, and at or above the high end, are near the low end.
    pub near_low : (n : ℕ) → ReachesUp Held n low ⊎ ReachesUp Held high n → IsNearPivot WithLink low n
    near_low n (inl (inl same)) = inl (inl (sym same))
    near_low n (inl (inr chain)) =
        inr (inl (Chain-map (IsNarrower Held) (IsNarrower WithLink) (more broader_direction) n low chain))
    near_low n (inr from) = inl (inr (over low n (inl refl) from))

    pub near_high : (n : ℕ) → ReachesUp Held n low ⊎ ReachesUp Held high n → IsNearPivot WithLink high n
    near_high n (inl to) = inr (inl (over n high to (inl refl)))
    near_high n (inr (inl same)) = inl (inl same)
    near_high n (inr (inr chain)) =
        inl (inr (Chain-map (IsNarrower Held) (IsNarrower WithLink) (more broader_direction) high n chain))

  -- Assumes that the new link leads neither up nor down, so that the same nodes stay above and below each node.
  module _ (level : broader_direction new.kind ≡ Never) where
    pub near_level : (p n : ℕ) → ReachesUp Held n p ⊎ ReachesUp Held p n → IsNearPivot WithLink p n
    near_level p n (inl (inl same)) = inl (inl (sym same))
    near_level p n (inl (inr chain)) =
        inr (inl (Chain-map (IsNarrower Held) (IsNarrower WithLink) (more broader_direction) n p chain))
    near_level p n (inr (inl same)) = inl (inl same)
    near_level p n (inr (inr chain)) =
        inl (inr (Chain-map (IsNarrower Held) (IsNarrower WithLink) (more broader_direction) p n chain))

    pub IsFirstOfCycleAndS27-kept : related_direction new.kind ≡ Never → NoCycle Held → S27 Held
        → IsFirstOfCycleAndS27 WithLink None
    IsFirstOfCycleAndS27-kept beside cycle s27 = (no_cycle_kept level cycle, s27_kept level beside s27)

    -- A new related link breaks S27 exactly when one of its ends is above the other.
    module _ (two : new.a ≢ new.b) (beside : related_direction new.kind ≡ Either) (cycle : NoCycle Held) where
      pub IsFirstOfCycleAndS27-above : HasEndAbove Held new → IsFirstOfCycleAndS27 WithLink (Some no.S27)
      IsFirstOfCycleAndS27-above (inl (inl same)) = absurd (two same)
      IsFirstOfCycleAndS27-above (inr (inl same)) = absurd (two (sym same))
      IsFirstOfCycleAndS27-above (inl (inr chain)) = (
        no_cycle_kept level cycle,
        (
          new.a,
          new.b,
          (
            new,
            inr refl,
            subst (λ (d : Direction). LinkLeads d new.a new.b new.a new.b) (sym beside)
                (inl (refl, refl)),
          ),
          Chain-map (IsNarrower Held) (IsNarrower WithLink) (more broader_direction) new.a new.b
              chain,
        ),
      )
      IsFirstOfCycleAndS27-above (inr (inr chain)) = (
        no_cycle_kept level cycle,
        (
          new.b,
          new.a,
          (
            new,
            inr refl,
            subst (λ (d : Direction). LinkLeads d new.a new.b new.b new.a) (sym beside)
                (inr (refl, refl)),
          ),
          Chain-map (IsNarrower Held) (IsNarrower WithLink) (more broader_direction) new.b new.a
              chain,
        ),
      )

      -- A new related link breaks neither rule if neither of its ends is above the other.
      pub IsFirstOfCycleAndS27-apart : S27 Held → HasNoEndAbove Held new → IsFirstOfCycleAndS27 WithLink None
      IsFirstOfCycleAndS27-apart s27 (not_up, not_down) = (
        no_cycle_kept level cycle,
        record { none = λ x y related above. pair x y related (chain_kept broader_direction level x y above) },
      )
        where
          pair : (x y : ℕ) → IsRelated WithLink x y → IsBelow Held x y → ⊥
          pair x y (l, inl held, leads) above = s27.none x y (l, held, leads) above
          pair x y (l, inr same, leads) above =
              let P : Link → Type 0 = λ w. LinkLeads (related_direction w.kind) w.a w.b x y in
              go (subst (λ (d : Direction). LinkLeads d new.a new.b x y) beside (subst P (sym same) leads))
            where
              go : ((new.a ≡ x) × (new.b ≡ y)) ⊎ ((new.b ≡ x) × (new.a ≡ y)) → ⊥
              go (inl (a, b)) =
                  not_up (inr (subst (λ (w : ℕ). IsBelow Held new.a w) (sym b)
                  (subst (λ (w : ℕ). IsBelow Held w y) (sym a) above)))
              go (inr (b, a)) =
                  not_down
                  (inr (subst (λ (w : ℕ). IsBelow Held new.b w) (sym a)
                  (subst (λ (w : ℕ). IsBelow Held w y) (sym b) above)))

-- A new link that leads up from one of its ends leads up only from there, to its other end.
module _ (new : Link) where
  pub only_up : broader_direction new.kind ≡ Forward → (x y : ℕ) → LinkLeads (broader_direction new.kind) new.a new.b
      x y → (new.a ≡ x) × (new.b ≡ y)
  only_up up x y leads = subst (λ (d : Direction). LinkLeads d new.a new.b x y) up leads

  pub there_up : broader_direction new.kind ≡ Forward → LinkLeads (broader_direction new.kind) new.a new.b new.a new.b
  there_up up = subst (λ (d : Direction). LinkLeads d new.a new.b new.a new.b) (sym up) (refl, refl)

  pub only_down : broader_direction new.kind ≡ Backward → (x y : ℕ) → LinkLeads (broader_direction new.kind) new.a
      new.b x y → (new.b ≡ x) × (new.a ≡ y)
  only_down down x y leads = subst (λ (d : Direction). LinkLeads d new.a new.b x y) down leads

  pub there_down : broader_direction new.kind ≡ Backward → LinkLeads (broader_direction new.kind) new.a new.b new.b
      new.a
  there_down down = subst (λ (d : Direction). LinkLeads d new.a new.b new.b new.a) (sym down) (refl, refl)

-- Links that lead up or down don't state that their ends are related.
pub beside_of_up : (k : LinkKind) → broader_direction k ≡ Forward → related_direction k ≡ Never
beside_of_up kinds.Related up = cc
beside_of_up kinds.RelMatch up = cc
beside_of_up _ up = refl

pub beside_of_down : (k : LinkKind) → broader_direction k ≡ Backward → related_direction k ≡ Never
beside_of_down kinds.Related down = cc
beside_of_down kinds.RelMatch down = cc
beside_of_down _ down = refl

module _ (Held : Link → Type 0) (low high : ℕ) where
  pub no_chain_from : ((y : ℕ) → IsNarrower Held low y → ⊥) → IsBelow Held low high → ⊥
  no_chain_from off ([], one) = off high one
  no_chain_from off (m ∷ ms, path) = off m path.0

  pub no_chain_to : ((y : ℕ) → Steps Narrower Held high y → ⊥) → IsBelow Held low high → ⊥
  no_chain_to off (ms, path) = let last = Path-last (IsNarrower Held) low ms high path in
      off last.0 (narrower_to Held high last.0 high last.2)

-- A new link up breaks no rule if its low end has no narrower and no related concept, or its high end no broader and no
-- related one.
module _ (Held : Link → Type 0) (new : Link) (two : new.a ≢ new.b) (legal : BreakNone Held)
    (up : broader_direction new.kind ≡ Forward) (beside : related_direction new.kind ≡ Never)
    (alike : exact_direction new.kind ≡ Never) (apart : disjoint_direction new.kind ≡ Never) where
  unbroken : (IsBelow Held new.b new.a → ⊥) → ((x y : ℕ) → ReachesUp Held x new.a → ReachesUp Held new.b y
      → IsRelated Held x y → ⊥) → BreakNone (WithLink Held new)
  unbroken no_chain no_pair = (
    no_cycle_up Held new new.a new.b two (only_up new up) (there_up new up) no_chain legal.0,
    s27_up Held new new.a new.b two (only_up new up) (there_up new up) beside no_pair legal.1,
    s46_kept Held new alike apart legal.2,
  )

  pub unbroken_lowest : ((y : ℕ) → Steps Narrower Held new.a y → ⊥) → ((y : ℕ) → Steps Related Held new.a y → ⊥)
      → BreakNone (WithLink Held new)
  unbroken_lowest down related = unbroken (no_chain_to Held new.b new.a down) pair
    where
      pair : (x y : ℕ) → ReachesUp Held x new.a → ReachesUp Held new.b y → IsRelated Held x y → ⊥
      pair x y (inl same) from one = related y (subst (λ (w : ℕ). IsRelated Held w y) same one)
      pair x y (inr chain) from one = no_chain_to Held x new.a down chain

  pub unbroken_highest : ((y : ℕ) → Steps Broader Held new.b y → ⊥) → ((y : ℕ) → Steps Related Held new.b y → ⊥)
      → BreakNone (WithLink Held new)
  unbroken_highest up_on related = unbroken (no_chain_from Held new.b new.a up_on) pair
    where
      pair : (x y : ℕ) → ReachesUp Held x new.a → ReachesUp Held new.b y → IsRelated Held x y → ⊥
      pair x y to (inl same) one =
          related x (related_turns Held x new.b (subst (λ (w : ℕ). IsRelated Held x w) (sym same) one))
      pair x y to (inr chain) one = no_chain_from Held new.b y up_on chain

-- A new link of a kind that has no part in any relation breaks no rule.
pub unbroken_loose : (Held : Link → Type 0) (new : Link) → BreakNone Held → broader_direction new.kind ≡ Never
    → related_direction new.kind ≡ Never → exact_direction new.kind ≡ Never → disjoint_direction new.kind ≡ Never
    → BreakNone (WithLink Held new)
unbroken_loose Held new legal up beside alike apart =
    (no_cycle_kept Held new up legal.0, s27_kept Held new up beside legal.1, s46_kept Held new alike apart legal.2)

-- If Cycle or S27 is broken, the first of these two that is broken is also the first of all three rules.
pub IsFirstBroken-two : (Held : Link → Type 0) (r : Refusal) → IsFirstOfCycleAndS27 Held (Some r)
    → IsFirstBroken Held (Some r)
IsFirstBroken-two Held no.Cycle above = above
IsFirstBroken-two Held no.S27 found = found
IsFirstBroken-two Held _ h = absurd h
