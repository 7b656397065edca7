-- Appending the nodes to which each link leads, link by link, grows a list by exactly these nodes.
use Rattle.std.proofs.lemmas.Grind.{common_steps}
use Rattle.std.proofs.Common.{◌≡◌, ℕ, ◌+◌, ◌<◌, ◌⊎◌, inl, inr, List, [], ◌∷◌, ◌++◌, length, take, get_or, Contains}
use Rattle.std.proofs.Common.{nat_eq, false, Some, None, sym, ap, subst, ◌∙◌, append_assoc, arith}
use Rattle.std.specs.List.{list_any}
use Rattle.std.proofs.lemmas.Cmp.{nat_eq_equiv}
use Rattle.std.proofs.lemmas.List.Elements.{Contains-append_left, Contains-push, Contains-push_cases}
use Rattle.std.proofs.lemmas.Map.Keys.{IsDistinct-push}
use Rattle.std.proofs.lemmas.List.{take_more}
use Rattle.std.proofs.lemmas.Option.{none-some, same_Some}
use Rattle.thes_base.specs.declared.data.Link.{Link}
use Rattle.thes_base.specs.declared.data.Direction.{Direction}
use Rattle.thes_base.specs.declared.data.Direction.TheVariants.{Forward, Backward, Either, Never}
use Rattle.thes_base.specs.Links.{LinkLeads}
use Rattle.thes_links.specs.declared.relation.Relation.{Relation}
use Rattle.thes_links.specs.Steps.{direction_of, Steps, step_in, step_along, Extends, GrowsBy}

-- Appending a new node grows the list by it.
pub GrowsBy-push : (xs : List ℕ) (y : ℕ) → list_any (nat_eq y) xs ≡ false → GrowsBy xs (xs ++ y ∷ []) (λ z. y ≡ z)
GrowsBy-push xs y fresh = grind (arith, common_steps, Contains-push, Contains-push_cases, IsDistinct-push, nat_eq_equiv)

pub GrowsBy-none : (xs : List ℕ) (P : ℕ → Type 0) → ((y : ℕ) → P y → ⊥) → GrowsBy xs xs P
GrowsBy-none xs P none = grind (arith, common_steps)

Extends-trans : (xs ys zs : List ℕ) → Extends xs ys → Extends ys zs → Extends xs zs
Extends-trans xs ys zs (m, e) (n, f) = (m ++ n, f ∙ ap (λ l. l ++ n) e ∙ append_assoc xs m n)

-- Two growths in sequence are one growth.
pub GrowsBy-then : (xs ys zs : List ℕ) (P Q S : ℕ → Type 0) → ((y : ℕ) → S y → P y ⊎ Q y) → ((y : ℕ) → P y → S y)
    → ((y : ℕ) → Q y → S y)
    → GrowsBy xs ys P → GrowsBy ys zs Q → GrowsBy xs zs S
GrowsBy-then xs ys zs P Q S parts left right g h = record {
  extends = Extends-trans xs ys zs g.extends h.extends;
  has_new = λ y s. elim (parts y s) [
    | inl p ↦ Extends-keeps ys zs h.extends y (g.has_new y p)
    | inr q ↦ h.has_new y q
  ];
  no_others = λ y has. elim (h.no_others y has) [
    | inl in_ys ↦ elim (g.no_others y in_ys) [ inl in_xs ↦ inl in_xs | inr p ↦ inr (left y p) ]
    | inr q ↦ inr (right y q)
  ];
  distinct = λ d. h.distinct (g.distinct d);
}
  where
    Extends-keeps : (ys zs : List ℕ) → Extends ys zs → (y : ℕ) → Contains ys y → Contains zs y
    Extends-keeps ys zs (more, e) y has = rw e (Contains-append_left ys more y has)

-- The function `step_in` computes the step that a link states.
pub step_from_Leads : (d : Direction) (a b x y : ℕ) → LinkLeads d a b x y → step_in d a b x ≡ Some y
step_from_Leads Forward a b x y (p, q) = grind arith
step_from_Leads Backward a b x y (p, q) = grind arith
step_from_Leads Either a b x y (inl (p, q)) = grind arith
step_from_Leads Either a b x y (inr (p, q)) = grind arith
step_from_Leads Never a b x y h = absurd h

pub Leads-from_step : (d : Direction) (a b x y : ℕ) → step_in d a b x ≡ Some y → LinkLeads d a b x y
Leads-from_step Forward a b x y e = grind arith
Leads-from_step Backward a b x y e = grind arith
Leads-from_step Either a b x y e = grind arith
Leads-from_step Never a b x y e = absurd (none-some y e)

abbrev LeadsAlong : Relation → Link → ℕ → ℕ → Type 0
LeadsAlong relation l x y = LinkLeads (direction_of relation l.kind) l.a l.b x y

-- Splits the steps of a prefix of a list into those of a shorter prefix and those of the next link.
module _ (relation : Relation) (links : List Link) (k : ℕ) (d : Link) (x : ℕ) (within : k < length links) where
  Steps-parts : (y : ℕ) → Steps relation (Contains (take (k + 1) links)) x y
      → Steps relation (Contains (take k links)) x y ⊎ LeadsAlong relation (get_or links k d) x y
  Steps-parts y (l, has, leads) =
      let P : List Link → Type 0 = λ ls. Contains ls l in
      elim (Contains-push_cases (take k links) (get_or links k d) l (subst P (take_more links k d within) has)) [
        | inl before ↦ inl (l, before, leads)
        | inr same ↦ inr (let Q : Link → Type 0 = λ w. LeadsAlong relation w x y in subst Q (sym same) leads)
      ]

  Steps-before : (y : ℕ) → Steps relation (Contains (take k links)) x y
      → Steps relation (Contains (take (k + 1) links)) x y
  Steps-before y (l, has, leads) =
      let P : List Link → Type 0 = λ ls. Contains ls l in (
        l,
        subst P (sym (take_more links k d within)) (Contains-append_left (take k links) (get_or links k d ∷ []) l
            has),
        leads,
      )

  Steps-last : (y : ℕ) → LeadsAlong relation (get_or links k d) x y → Steps relation (Contains (take (k + 1) links)) x y
  Steps-last y leads =
      let P : List Link → Type 0 = λ ls. Contains ls (get_or links k d) in (
        get_or links k d,
        subst P (sym (take_more links k d within)) (Contains-push (take k links) (get_or links k d)),
        leads,
      )

  pub GrowsBy-step : (xs ys zs : List ℕ) (y : ℕ) → step_along relation (get_or links k d) x ≡ Some y
      → GrowsBy xs ys (Steps relation (Contains (take k links)) x) → GrowsBy ys zs (λ z. y ≡ z)
      → GrowsBy xs zs (Steps relation (Contains (take (k + 1) links)) x)
  GrowsBy-step xs ys zs y leads =
      GrowsBy-then xs ys zs (Steps relation (Contains (take k links)) x) (λ z. y ≡ z)
      (Steps relation (Contains (take (k + 1) links)) x)
      (λ z has. elim (Steps-parts z has) [
        | inl before ↦ inl before
        | inr now ↦ inr (same_Some y z (sym leads ∙ step_from_Leads _ _ _ x z now))
      ])
      Steps-before
      (λ z same. Steps-last z (Leads-from_step (direction_of relation (get_or links k d).kind) (get_or links k d).a
      (get_or links k d).b x z (leads ∙ ap Some same)))

  pub GrowsBy-no_step : (xs ys : List ℕ) → step_along relation (get_or links k d) x ≡ None
      → GrowsBy xs ys (Steps relation (Contains (take k links)) x)
      → GrowsBy xs ys (Steps relation (Contains (take (k + 1) links)) x)
  GrowsBy-no_step xs ys none g =
      GrowsBy-then xs ys ys (Steps relation (Contains (take k links)) x)
      (λ z. LeadsAlong relation (get_or links k d) x z) (Steps relation (Contains (take (k + 1) links)) x)
      Steps-parts Steps-before Steps-last g
      (GrowsBy-none ys (λ z. LeadsAlong relation (get_or links k d) x z)
      (λ z some. none-some z (sym none ∙ step_from_Leads _ _ _ x z some)))

-- A link leads from one of its ends.
pub Leads-first : (d : Direction) (a b x y : ℕ) → LinkLeads d a b x y → (a ≡ x) ⊎ (b ≡ x)
Leads-first Forward a b x y (e, f) = inl e
Leads-first Backward a b x y (e, f) = inr e
Leads-first Either a b x y (inl (e, f)) = inl e
Leads-first Either a b x y (inr (e, f)) = inr e
Leads-first Never a b x y h = absurd h
