-- The checks at the pivot decide whether a rule is broken there, and read only links near the pivot.
use Rattle.std.proofs.Common.{◌≡◌, ◌⊎◌, inl, inr, ℕ, List, [], ◌∷◌, sym, subst, refl, Some}
use Rattle.thes_base.specs.declared.data.Link.{Link}
use Rattle.thes_base.specs.declared.data.Direction.{Direction}
use Rattle.thes_base.specs.declared.data.Direction.TheVariants.{Forward, Backward, Either, Never}
use Rattle.thes_base.specs.Links.{broader_direction, disjoint_direction, LinkLeads, Path, Chain, IsNarrower}
use Rattle.thes_links.specs.Steps.{reverse_of, Steps, Reaches}
use Rattle.thes_links.specs.Rules.{ReachesUp, InClassOf, KeepsS46At, IsNearPivot, IsFirstBrokenAt}
use Rattle.thes_links.specs.Reading.{HaveTwoEnds}
use Rattle.thes_walks.specs.SideSearch.{IsBrokenBetween}
use Rattle.thes_base.specs.declared.fault.Refusal.{Refusal}
use Rattle.thes_base.specs.declared.fault.Refusal.TheVariants as no
use Rattle.thes_links.specs.declared.relation.Relation.TheVariants.{Narrower, Exact}
use Rattle.thes_links.proofs.PivotLemmas.{Reaches-turn, Leads-two}

-- Each path ends with a step to its last node.
module _ (S : ℕ → ℕ → Type 0) where
  pub Path-last : (x : ℕ) (ms : List ℕ) (z : ℕ) → Path S x ms z → (y : ℕ) × Reaches S x y × S y z
  Path-last x [] z one = (x, inl refl, one)
  Path-last x (m ∷ ms) z path =
      let rest = Path-last m ms z path.1 in (rest.0, inr (front rest.0 rest.1), rest.2)
    where
      front : (y : ℕ) → Reaches S m y → Chain S x y
      front y (inl same) = subst (λ (w : ℕ). Chain S x w) same ([], path.0)
      front y (inr (ns, more)) = (m ∷ ns, (path.0, more))

Leads-reverse_of : (d : Direction) (a b x y : ℕ) → LinkLeads (reverse_of d) a b x y → LinkLeads d a b y x
Leads-reverse_of Forward a b x y (e, f) = (f, e)
Leads-reverse_of Backward a b x y (e, f) = (f, e)
Leads-reverse_of Either a b x y (inl (e, f)) = inr (f, e)
Leads-reverse_of Either a b x y (inr (e, f)) = inl (f, e)
Leads-reverse_of Never a b x y h = h

turned_Leads : (d : Direction) (a b x y : ℕ) → LinkLeads d a b x y → LinkLeads (reverse_of d) a b y x
turned_Leads Forward a b x y (e, f) = (f, e)
turned_Leads Backward a b x y (e, f) = (f, e)
turned_Leads Either a b x y (inl (e, f)) = inr (f, e)
turned_Leads Either a b x y (inr (e, f)) = inl (f, e)
turned_Leads Never a b x y h = h

module _ (Would : Link → Type 0) (p : ℕ) where
  pub narrower_from : (x y : ℕ) → Steps Narrower Would x y → IsNarrower Would y x
  narrower_from x y (l, would, leads) = (l, would, Leads-reverse_of (broader_direction l.kind) l.a l.b x y leads)

  pub narrower_to : (x y : ℕ) → IsNarrower Would x y → Steps Narrower Would y x
  narrower_to x y (l, would, leads) = (l, would, turned_Leads (broader_direction l.kind) l.a l.b x y leads)

  pub below_from : (x : ℕ) → Reaches (Steps Narrower Would) p x → ReachesUp Would x p
  below_from x = Reaches-turn (Steps Narrower Would) (IsNarrower Would) narrower_from p x

  pub below_to : (x : ℕ) → ReachesUp Would x p → Reaches (Steps Narrower Would) p x
  below_to x = Reaches-turn (IsNarrower Would) (Steps Narrower Would) narrower_to x p

  -- If the pivot has no exact matches, S46 isn't broken in its class.
  pub class_alone : HaveTwoEnds Would → ((y : ℕ) → Steps Exact Would p y → ⊥) → KeepsS46At Would p
  class_alone two none x y to from (l, would, leads) =
      let P : ℕ → ℕ → Type 0 = λ a b. LinkLeads (disjoint_direction l.kind) l.a l.b a b in
      Leads-two (disjoint_direction l.kind) l.a l.b p (two l would)
      (subst (λ a. P a p) (sym (at x to)) (subst (P x) (sym (at y from)) leads))
    where
      at : (z : ℕ) → InClassOf Would p z → p ≡ z
      at z (inl same) = same
      at z (inr ([], one)) = absurd (none z one)
      at z (inr (m ∷ ms, path)) = absurd (none m path.0)

  -- The nodes that the searches from the pivot meet are near it.
  pub near_pivot : (n : ℕ) → ReachesUp Would n p ⊎ ReachesUp Would p n → IsNearPivot Would p n
  near_pivot n (inl (inl same)) = inl (inl (sym same))
  near_pivot n (inl (inr chain)) = inr (inl chain)
  near_pivot n (inr up) = inl up

  pub near_same : (n : ℕ) → Reaches (Steps Exact Would) p n → IsNearPivot Would p n
  near_same n (inl same) = inl (inl same)
  near_same n (inr c) = inr (inr c)

  pub IsFirstBrokenAt-between : (r : Refusal) → IsBrokenBetween Would p p (Some r) → IsFirstBrokenAt Would p (Some r)
  IsFirstBrokenAt-between no.Cycle above = above
  IsFirstBrokenAt-between no.S27 found = found
  IsFirstBrokenAt-between _ h = absurd h
