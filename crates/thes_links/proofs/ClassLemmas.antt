-- The links at the members of a class of exact matches decide whether the class breaks S46.
use Rattle.std.proofs.Common.{ℕ, List, Contains}
use Rattle.thes_base.specs.declared.data.Link.{Link}
use Rattle.thes_base.specs.Links.{disjoint_direction}
use Rattle.thes_base.specs.Links.{IsDisjointMatch}
use Rattle.thes_links.specs.Steps.{Ties}
use Rattle.thes_links.specs.Rules.{InClassOf, KeepsS46At, IsReachableSet}
use Rattle.thes_links.specs.declared.relation.Relation.TheVariants.{Exact, Apart}
use Rattle.thes_links.proofs.StepLemmas.{Leads-first}

module _ (Would : Link → Type 0) (p : ℕ) (same : List ℕ) (links : List Link)
    (alike : IsReachableSet Would Exact p same links) where
  pub s46_found : (l : Link) × Contains links l × Ties Apart l same same → (x : ℕ) × (y : ℕ) × InClassOf Would p x
      × InClassOf Would p y × IsDisjointMatch Would x y
  s46_found (l, has, (x, y, in_x, in_y, leads)) =
      (x, y, alike.reach.sound x in_x, alike.reach.sound y in_y, (l, alike.sound l has, leads))

  pub s46_none : ((l : Link) → Contains links l → Ties Apart l same same → ⊥) → KeepsS46At Would p
  s46_none none x y to from (l, would, leads) =
      let in_x : Contains same x = alike.reach.complete x to in
      none l (alike.complete l would x in_x (Leads-first (disjoint_direction l.kind) l.a l.b x y leads))
      (x, y, in_x, alike.reach.complete y from, leads)
