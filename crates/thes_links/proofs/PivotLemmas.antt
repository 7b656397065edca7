-- The first rule that the links break at the pivot is the first that they break anywhere, if those without an end at
-- the pivot break none.
use Rattle.std.proofs.Common.{◌≡◌, ◌≢◌, ℕ, ◌⊎◌, inl, inr, List, [], ◌∷◌, ◌++◌, Option, Some, None, sym, subst, ◌∙◌}
use Rattle.std.proofs.lemmas.Bool.{cases_eq}
use Rattle.thes_base.specs.declared.data.Link.{Link}
use Rattle.thes_base.specs.declared.data.LinkKind.{LinkKind}
use Rattle.thes_base.specs.declared.data.Direction.{Direction}
use Rattle.thes_base.specs.declared.data.Direction.TheVariants.{Forward, Backward, Either, Never}
use Rattle.thes_base.specs.declared.fault.Refusal.{Refusal}
use Rattle.thes_base.specs.Links.{broader_direction, related_direction, exact_direction, disjoint_direction}
use Rattle.thes_base.specs.Links.{LinkLeads, Path, Chain, IsJoined, IsNarrower, IsBelow, IsRelated, IsExactMatch}
use Rattle.thes_base.specs.Links.{IsDisjointMatch, NoCycle, S27, S46, IsFirstBroken}
use Rattle.thes_links.specs.Reading.{HaveTwoEnds}
use Rattle.thes_links.specs.Steps.{Reaches}
use Rattle.thes_links.specs.Rules.{BreakNone, HeldAwayFrom, ReachesUp, InClassOf, NoCycleAt, KeepsS27At, KeepsS46At}
use Rattle.thes_links.specs.Rules.{IsFirstBrokenAt}
use Rattle.thes_base.specs.declared.fault.Refusal.TheVariants as no
use Rattle.thes_base.specs.declared.data.LinkKind.TheVariants.{Exact}
use Rattle.thes_base.proofs.LegalResourceLemmas.{path_map}
use Rattle.thes_base.proofs.LegalLinkLemmas.{fewer_no_cycle, fewer_s27, fewer_s46}

-- A chain can be joined to another chain that begins at its end.
module _ (S : ℕ → ℕ → Type 0) where
  Path-join : (x : ℕ) (ms : List ℕ) (y : ℕ) (ns : List ℕ) (z : ℕ) → Path S x ms y → Path S y ns z
      → Path S x (ms ++ y ∷ ns) z
  Path-join x [] y ns z one rest = (one, rest)
  Path-join x (m ∷ ms) y ns z path rest = (path.0, Path-join m ms y ns z path.1 rest)

  pub Chain-join : (x y z : ℕ) → Chain S x y → Chain S y z → Chain S x z
  Chain-join x y z (ms, p) (ns, q) = (ms ++ y ∷ ns, Path-join x ms y ns z p q)

  pub Chain-one : (x y : ℕ) → S x y → Chain S x y
  Chain-one x y one = ([], one)

  pub Chain-then_reach : (x y z : ℕ) → Chain S x y → Reaches S y z → Chain S x z
  Chain-then_reach x y z c (inl same) = subst (λ (w : ℕ). Chain S x w) same c
  Chain-then_reach x y z c (inr d) = Chain-join x y z c d

  pub Reaches-then_chain : (x y z : ℕ) → Reaches S x y → Chain S y z → Chain S x z
  Reaches-then_chain x y z (inl same) c = subst (λ (w : ℕ). Chain S w z) (sym same) c
  Reaches-then_chain x y z (inr d) c = Chain-join x y z d c

-- A chain, read backwards, is a chain in the converse relation.
module _ (S T : ℕ → ℕ → Type 0) (turns : (x y : ℕ) → S x y → T y x) where
  Path-turn : (x : ℕ) (ms : List ℕ) (y : ℕ) → Path S x ms y → Chain T y x
  Path-turn x [] y one = ([], turns x y one)
  Path-turn x (m ∷ ms) y path = Chain-join T y m x (Path-turn m ms y path.1) ([], turns x m path.0)

  pub Chain-turn : (x y : ℕ) → Chain S x y → Chain T y x
  Chain-turn x y (ms, p) = Path-turn x ms y p

  pub Reaches-turn : (x y : ℕ) → Reaches S x y → Reaches T y x
  Reaches-turn x y (inl same) = inl (sym same)
  Reaches-turn x y (inr c) = inr (Chain-turn x y c)

module _ (S T : ℕ → ℕ → Type 0) (more : (x y : ℕ) → S x y → T x y) where
  pub Chain-map : (x y : ℕ) → Chain S x y → Chain T x y
  Chain-map x y (ms, p) = (ms, path_map S T more x ms y p)

  pub Reaches-map : (x y : ℕ) → Reaches S x y → Reaches T x y
  Reaches-map x y (inl same) = inl same
  Reaches-map x y (inr c) = inr (Chain-map x y c)

-- A link with an end at p leads from p or to p.
Leads-at : (d : Direction) (a b x y p : ℕ) → LinkLeads d a b x y → ((a ≡ p) ⊎ (b ≡ p)) → (x ≡ p) ⊎ (y ≡ p)
Leads-at Forward a b x y p (e, f) (inl at) = inl (sym e ∙ at)
Leads-at Forward a b x y p (e, f) (inr at) = inr (sym f ∙ at)
Leads-at Backward a b x y p (e, f) (inl at) = inr (sym f ∙ at)
Leads-at Backward a b x y p (e, f) (inr at) = inl (sym e ∙ at)
Leads-at Either a b x y p (inl (e, f)) (inl at) = inl (sym e ∙ at)
Leads-at Either a b x y p (inl (e, f)) (inr at) = inr (sym f ∙ at)
Leads-at Either a b x y p (inr (e, f)) (inl at) = inr (sym f ∙ at)
Leads-at Either a b x y p (inr (e, f)) (inr at) = inl (sym e ∙ at)
Leads-at Never a b x y p h at = absurd h

-- A link with two different ends doesn't lead from a node to itself.
pub Leads-two : (d : Direction) (a b x : ℕ) → a ≢ b → LinkLeads d a b x x → ⊥
Leads-two Forward a b x two (e, f) = two (e ∙ sym f)
Leads-two Backward a b x two (e, f) = two (f ∙ sym e)
Leads-two Either a b x two (inl (e, f)) = two (e ∙ sym f)
Leads-two Either a b x two (inr (e, f)) = two (f ∙ sym e)
Leads-two Never a b x two h = h

module _ (Held : Link → Type 0) (p : ℕ) where
  -- A step either uses a link without an end at p, or begins or ends at p.
  step_at : (way : LinkKind → Direction) (x y : ℕ) → IsJoined Held way x y
      → IsJoined (HeldAwayFrom Held p) way x y ⊎ ((x ≡ p) ⊎ (y ≡ p))
  step_at way x y (l, held, leads) =
      elim (cases_eq l.a p) [
        | inl at ↦ inr (Leads-at (way l.kind) l.a l.b x y p leads (inl at))
        | inr not_a ↦ elim (cases_eq l.b p) [
          | inl at ↦ inr (Leads-at (way l.kind) l.a l.b x y p leads (inr at))
          | inr not_b ↦ inl (l, (held, not_a, not_b), leads)
        ]
      ]

  -- A path either uses only links without an end at p, or runs through p.
  path_at : (way : LinkKind → Direction) (x : ℕ) (ms : List ℕ) (y : ℕ) → Path (IsJoined Held way) x ms y
      → Path (IsJoined (HeldAwayFrom Held p) way) x ms y
      ⊎ (Reaches (IsJoined Held way) x p × Reaches (IsJoined Held way) p y)
  path_at way x [] y one =
      elim (step_at way x y one) [
        | inl away ↦ inl away
        | inr (inl at) ↦ inr (inl at, inr (subst (λ (w : ℕ). Chain (IsJoined Held way) w y) at ([], one)))
        | inr (inr at) ↦ inr (inr (subst (λ (w : ℕ). Chain (IsJoined Held way) x w) at ([], one)), inl (sym at))
      ]
  path_at way x (m ∷ ms) y path =
      elim (step_at way x m path.0) [
        | inl away ↦ elim (path_at way m ms y path.1) [
          | inl rest ↦ inl (away, rest)
          | inr through ↦ inr (inr (Chain-then_reach (IsJoined Held way) x m p ([], path.0) through.0), through.1)
        ]
        | inr (inl at) ↦ inr (inl at, inr (subst (λ (w : ℕ). Chain (IsJoined Held way) w y) at (m ∷ ms, path)))
        | inr (inr at) ↦ inr (
          inr (subst (λ (w : ℕ). Chain (IsJoined Held way) x w) at ([], path.0)),
          inr (subst (λ (w : ℕ). Chain (IsJoined Held way) w y) at (ms, path.1)),
        )
      ]

  chain_at : (way : LinkKind → Direction) (x y : ℕ) → Chain (IsJoined Held way) x y
      → Chain (IsJoined (HeldAwayFrom Held p) way) x y
      ⊎ (Reaches (IsJoined Held way) x p × Reaches (IsJoined Held way) p y)
  chain_at way x y (ms, path) =
      elim (path_at way x ms y path) [ inl away ↦ inl (ms, away) | inr through ↦ inr through ]

-- A subset of links that break no rule breaks none.
pub BreakNone-within : (Sub Sup : Link → Type 0) → ((l : Link) → Sub l → Sup l) → BreakNone Sup → BreakNone Sub
BreakNone-within Sub Sup within (c1, s27, s46) = (
  fewer_no_cycle Sub Sup within c1,
  fewer_s27 Sub Sup within s27,
  fewer_s46 Sub Sup within s46,
)

Leads-exact_turns : (kind : LinkKind) (a b x y : ℕ) → LinkLeads (exact_direction kind) a b x y
    → LinkLeads (exact_direction kind) a b y x
Leads-exact_turns Exact a b x y (inl (e, f)) = inr (f, e)
Leads-exact_turns Exact a b x y (inr (e, f)) = inl (f, e)
Leads-exact_turns _ a b x y h = absurd h

module _ (Held : Link → Type 0) where
  pub exact_turns : (x y : ℕ) → IsJoined Held exact_direction x y → IsJoined Held exact_direction y x
  exact_turns x y (l, held, leads) = (l, held, Leads-exact_turns l.kind l.a l.b x y leads)

  pub InClassOf-turn : (x y : ℕ) → InClassOf Held x y → InClassOf Held y x
  InClassOf-turn = Reaches-turn (IsJoined Held exact_direction) (IsJoined Held exact_direction) exact_turns

-- A rule that is broken at p is broken by the links as a whole.
module _ (Held : Link → Type 0) (two : HaveTwoEnds Held) (p : ℕ) where
  pub S27-witness : (x : ℕ) × (y : ℕ) × ReachesUp Held x p × ReachesUp Held p y × IsRelated Held x y → (x : ℕ)
      × (y : ℕ) × IsRelated Held x y × IsBelow Held x y
  S27-witness (x, y, to, from, r) = (x, y, r, climb to from)
    where
      climb : ReachesUp Held x p → ReachesUp Held p y → IsBelow Held x y
      climb to (inr from) = Reaches-then_chain (IsNarrower Held) x p y to from
      climb (inr to) (inl same) = subst (λ (w : ℕ). IsBelow Held x w) same to
      climb (inl one) (inl same) =
          absurd (Leads-two (related_direction r.0.kind) r.0.a r.0.b x (two r.0 r.1) (let P : ℕ → Type 0 =
          λ w. LinkLeads (related_direction r.0.kind) r.0.a r.0.b x w in subst P (sym same ∙ sym one) r.2))

  pub S46-witness : (x : ℕ) × (y : ℕ) × InClassOf Held p x × InClassOf Held p y × IsDisjointMatch Held x y → (x : ℕ)
      × (y : ℕ) × IsExactMatch Held x y × IsDisjointMatch Held x y
  S46-witness (x, y, to, from, m) = (x, y, across to from, m)
    where
      across : InClassOf Held p x → InClassOf Held p y → IsExactMatch Held x y
      across to (inr from) = Reaches-then_chain (IsJoined Held exact_direction) x p y (InClassOf-turn Held p x to) from
      across (inr to) (inl same) = subst (λ (w : ℕ). IsExactMatch Held x w) same
          (Chain-turn (IsJoined Held exact_direction) (IsJoined Held exact_direction) (exact_turns Held) p x to)
      across (inl one) (inl same) =
          absurd (Leads-two (disjoint_direction m.0.kind) m.0.a m.0.b x (two m.0 m.1) (let P : ℕ → Type 0 =
          λ w. LinkLeads (disjoint_direction m.0.kind) m.0.a m.0.b x w in subst P (sym same ∙ one) m.2))

-- If the links without an end at p break no rule, a rule that the links break is broken at p.
module _ (Held : Link → Type 0) (p : ℕ) (legal : BreakNone (HeldAwayFrom Held p)) where
  no_cycle_from : NoCycleAt Held p → (x : ℕ) → IsBelow Held x x → ⊥
  no_cycle_from none x bt =
      elim (chain_at Held p broader_direction x x bt) [
        | inl away ↦ legal.0.none x away
        | inr (to, from) ↦ none (round to from)
      ]
    where
      round : ReachesUp Held x p → ReachesUp Held p x → IsBelow Held p p
      round (inl same) from = subst (λ (w : ℕ). IsBelow Held w w) same bt
      round (inr to) from = Reaches-then_chain (IsNarrower Held) p x p from to

  s27_from : KeepsS27At Held p → (x y : ℕ) → IsRelated Held x y → IsBelow Held x y → ⊥
  s27_from none x y r bt =
      elim (chain_at Held p broader_direction x y bt) [
        | inr (to, from) ↦ none x y to from r
        | inl away ↦ elim (step_at Held p related_direction x y r) [
          | inl r_away ↦ legal.1.none x y r_away away
          | inr (inl at) ↦ none x y (inl at) (inr (subst (λ (w : ℕ). IsBelow Held w y) at bt)) r
          | inr (inr at) ↦ none x y (inr (subst (λ (w : ℕ). IsBelow Held x w) at bt)) (inl (sym at)) r
        ]
      ]

  s46_from : KeepsS46At Held p → (x y : ℕ) → IsExactMatch Held x y → IsDisjointMatch Held x y → ⊥
  s46_from none x y e m =
      elim (chain_at Held p exact_direction x y e) [
        | inr (to, from) ↦ none x y (InClassOf-turn Held x p to) from m
        | inl away ↦ elim (step_at Held p disjoint_direction x y m) [
          | inl m_away ↦ legal.2.none x y away m_away
          | inr (inl at) ↦ none x y (inl (sym at)) (inr (subst (λ (w : ℕ). IsExactMatch Held w y) at e)) m
          | inr (inr at) ↦ none x y (InClassOf-turn Held x p (inr (subst (λ (w : ℕ). IsExactMatch Held x w) at e)))
              (inl (sym at)) m
        ]
      ]

  no_cycle_pivot : NoCycleAt Held p → NoCycle Held
  no_cycle_pivot none = record { none = no_cycle_from none }

  s27_pivot : KeepsS27At Held p → S27 Held
  s27_pivot none = record { none = s27_from none }

  pub s46_pivot : KeepsS46At Held p → S46 Held
  s46_pivot none = record { none = s46_from none }

  -- The first rule broken at the pivot is the first rule broken anywhere.
  pub IsFirstBroken-from_pivot : HaveTwoEnds Held → (r : Option Refusal) → IsFirstBrokenAt Held p r
      → IsFirstBroken Held r
  IsFirstBroken-from_pivot two None (c1, s27, s46) = (no_cycle_pivot c1, s27_pivot s27, s46_pivot s46)
  IsFirstBroken-from_pivot two (Some no.Cycle) above = (p, above)
  IsFirstBroken-from_pivot two (Some no.S27) (c1, found) = (no_cycle_pivot c1, S27-witness Held two p found)
  IsFirstBroken-from_pivot two (Some no.S46) (c1, s27, found) =
      (no_cycle_pivot c1, s27_pivot s27, S46-witness Held two p found)
  IsFirstBroken-from_pivot two (Some _) h = absurd h
