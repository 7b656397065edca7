-- The results of the check for each link decide whether all links satisfy the rules.
use Rattle.std.proofs.Common.{◌≡◌, ◌≢◌, ◌⊎◌, inl, inr, ◌+◌, ◌<◌, ◌≤◌, ℕ, List, [], ◌∷◌, ◌++◌, Contains, length, take}
use Rattle.std.proofs.Common.{get_or, refl, sym, subst, ◌∙◌, arith, below_more}
use Rattle.std.proofs.lemmas.List.{take_more, get_or_default}
use Rattle.std.proofs.lemmas.List.Elements.{Contains-append_left, Contains-push, Contains-push_cases}
use Rattle.thes_base.specs.declared.data.Link.{Link}
use Rattle.thes_base.specs.declared.data.Direction.{Direction}
use Rattle.thes_base.specs.declared.data.Direction.TheVariants.{Forward, Backward, Either, Never}
use Rattle.thes_base.specs.Links.{broader_direction, exact_direction, LinkLeads, Path, IsJoined}
use Rattle.thes_base.specs.Links.{IsNarrower, IsBelow, IsDisjointMatch, NoCycle, S46}
use Rattle.thes_links.specs.declared.relation.Relation.TheVariants as relation
use Rattle.thes_links.specs.Steps.{Reaches, GrowsBy, HasDirection}
use Rattle.thes_links.specs.Rules.{ReachesUp, InClassOf, NoCycleAt, KeepsS46At}
use Rattle.thes_links.proofs.PivotLemmas.{Reaches-then_chain, Chain-then_reach, exact_turns}
use Rattle.thes_links.proofs.StepLemmas.{GrowsBy-then}

pub never : (w : Direction) (a b x y : ℕ) → LinkLeads w a b x y → w ≢ Never
never w a b x y leads same = subst (λ (d : Direction). LinkLeads d a b x y) same leads

-- A link that leads from x to y has the ends x and y.
pub pair : (w : Direction) (a b x y : ℕ) → LinkLeads w a b x y → ((a ≡ x) × (b ≡ y)) ⊎ ((b ≡ x) × (a ≡ y))
pair Forward a b x y h = inl h
pair Backward a b x y h = inr h
pair Either a b x y h = h
pair Never a b x y h = absurd h

module _ {S : ℕ → ℕ → Type 0} where
  reach_join : (x y z : ℕ) → Reaches S x y → Reaches S y z → Reaches S x z
  reach_join x y z (inl same) r = subst (λ (w : ℕ). Reaches S w z) (sym same) r
  reach_join x y z (inr c) r = inr (Chain-then_reach S x y z c r)

-- One iteration of a loop appends the next node of a list.
pub GrowsBy-more : (xs ys zs nodes : List ℕ) (k : ℕ) → k < length nodes → GrowsBy xs ys (Contains (take k nodes))
    → GrowsBy ys zs (λ z. get_or nodes k 0 ≡ z) → GrowsBy xs zs (Contains (take (k + 1) nodes))
GrowsBy-more xs ys zs nodes k within =
    GrowsBy-then xs ys zs (Contains (take k nodes)) (λ z. get_or nodes k 0 ≡ z) (Contains (take (k + 1) nodes))
    (λ z has. Contains-push_cases (take k nodes) (get_or nodes k 0) z
    (subst (λ (ns : List ℕ). Contains ns z) (take_more nodes k 0 within) has))
    (λ z has. back z (Contains-append_left (take k nodes) (get_or nodes k 0 ∷ []) z has))
    (λ z same. back z (subst (λ (w : ℕ). Contains (take k nodes ++ get_or nodes k 0 ∷ []) w) same
    (Contains-push (take k nodes) (get_or nodes k 0))))
  where
    back : (z : ℕ) → Contains (take k nodes ++ get_or nodes k 0 ∷ []) z → Contains (take (k + 1) nodes) z
    back z has = subst (λ (ns : List ℕ). Contains ns z) (sym (take_more nodes k 0 within)) has

-- The first i links of the list have the property.
abbrev pub HoldsBelow : (Link → Type 0) → List Link → ℕ → Type 0
HoldsBelow P all i = (k : ℕ) (d : Link) → k < i → P (get_or all k d)

pub holds_more : (P : Link → Type 0) (all : List Link) (i : ℕ) (l : Link) → i < length all → l ≡ get_or all i l
    → HoldsBelow P all i → P l → HoldsBelow P all (i + 1)
holds_more P all i l within at before now k d lt =
    below_more (λ (k : ℕ). (d : Link) → P (get_or all k d)) i (λ k lt d. before k d lt)
    (λ d. subst P (at ∙ get_or_default all i l d within) now) k lt d

pub holds_all : (P : Link → Type 0) (all : List Link) (i : ℕ) → length all ≤ i → HoldsBelow P all i → (l : Link)
    → Contains all l → P l
holds_all P all i past each l (k, within, is) = subst P is (each k l (omega arith))

module _ (Held : Link → Type 0) where
  -- If no cycle runs through the first end of any link, there is no cycle.
  pub no_cycle_all : ((l : Link) → Held l → NoCycleAt Held l.a) → NoCycle Held
  no_cycle_all none = record { none = λ x (ms, path). go x ms path }
    where
      at : (x : ℕ) (l : Link) → Held l → (y : ℕ) → LinkLeads (broader_direction l.kind) l.a l.b x y → IsBelow Held x x
          → ReachesUp Held y x → ⊥
      at x l held y leads round rest = elim (pair (broader_direction l.kind) l.a l.b x y leads) [
        | inl (first, _) ↦ none l held (subst (λ (w : ℕ). IsBelow Held w w) (sym first) round)
        | inr (_, second) ↦ none l held (subst (λ (w : ℕ). IsBelow Held w w) (sym second)
            (Reaches-then_chain (IsNarrower Held) y x y rest ([], (l, held, leads))))
      ]

      go : (x : ℕ) (ms : List ℕ) → Path (IsNarrower Held) x ms x → ⊥
      go x [] one = at x one.0 one.1 x one.2 ([], one) (inl refl)
      go x (m ∷ ms) path = at x path.0.0 path.0.1 m path.0.2 (m ∷ ms, path) (inr (ms, path.1))

  -- If S46 holds in the class of one node, it holds in the class of each member of that class.
  pub class_free : (p m : ℕ) → KeepsS46At Held p → InClassOf Held p m → KeepsS46At Held m
  class_free p m none to x y in_x in_y apart = none x y (reach_join p m x to in_x) (reach_join p m y to in_y) apart

  -- The link isn't an exact match, or its first end is done.
  abbrev pub IsDone : List ℕ → Link → Type 0
  IsDone done l = HasDirection relation.Exact l → Contains done l.a

  -- If the first end of each exact match is done, S46 holds.
  pub s46_all : (done : List ℕ) → ((n : ℕ) → Contains done n → KeepsS46At Held n)
      → ((l : Link) → Held l → IsDone done l)
      → S46 Held
  s46_all done free each = record { none = λ x y (ms, path) apart. go x y ms path apart }
    where
      -- If a chain of exact matches begins with a link whose first end is done, the ends of the chain aren't broader or
      -- related matches.
      first : (x z y : ℕ) (l : Link) → Held l → LinkLeads (exact_direction l.kind) l.a l.b x z → InClassOf Held z y
          → IsDisjointMatch Held x y → ⊥
      first x z y l held leads rest apart = elim (pair (exact_direction l.kind) l.a l.b x z leads) [
        | inl (a, _) ↦ at x y (inl a) (reach_join l.a x y (inl a) to_y) apart
        | inr (_, a) ↦ at x y (reach_join l.a z x (inl a) (inr ([], exact_turns Held x z (l, held, leads))))
            (reach_join l.a z y (inl a) rest) apart
      ]
        where
          to_y : InClassOf Held x y
          to_y = reach_join x z y (inr ([], (l, held, leads))) rest

          at : (x y : ℕ) → InClassOf Held l.a x → InClassOf Held l.a y → IsDisjointMatch Held x y → ⊥
          at = free l.a (each l held (never (exact_direction l.kind) l.a l.b x z leads))

      go : (x y : ℕ) (ms : List ℕ) → Path (IsJoined Held exact_direction) x ms y → IsDisjointMatch Held x y → ⊥
      go x y [] one apart = first x y y one.0 one.1 one.2 (inl refl) apart
      go x y (m ∷ ms) path apart = first x m y path.0.0 path.0.1 path.0.2 (inr (ms, path.1)) apart
