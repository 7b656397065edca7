-- A property has at most one listing.
use Rattle.std.proofs.lemmas.Grind.{common_steps}
use Rattle.std.proofs.Common.{arith}
use Rattle.std.proofs.Common.{◌≡◌, refl, sym, subst, ⊎_elim, List, [], ◌∷◌, Contains}
use Rattle.std.specs.declared.cmp.Ordering.{Ordering}
use Rattle.std.specs.declared.cmp.Ordering.TheVariants.{Less}
use Rattle.std.specs.Cmp.{IsTotalOrder, tied_itself}
use Rattle.std.specs.List.{AllByRecursion}
use Rattle.std.specs.List.Sorted.{IsStrictlySortedBy}
use Rattle.thes_base.specs.Listing.{IsListing}
use Rattle.thes_base.proofs.ListMemberLemmas.{Contains-none, Contains-head, Contains-later, Contains-cons_cases}

each_of : {X : Type 0} (P : X → Type 0) (xs : List X) (z : X) → AllByRecursion P xs → Contains xs z → P z
each_of P [] z each c = absurd (Contains-none z c)
each_of P (x ∷ xs) z each c = ⊎_elim (λ e. subst P e each.0) (λ more. each_of P xs z each.1 more)
    (Contains-cons_cases x xs z c)

module _ {X : Type 0} {cmp : X → X → Ordering} (o : IsTotalOrder cmp) where
  not_below_itself : (x : X) → cmp x x ≡ Less → ⊥
  not_below_itself x e = let t = tied_itself o x in cc

  not_both : (x y : X) → cmp x y ≡ Less → cmp y x ≡ Less → ⊥
  not_both x y e f = not_below_itself x (o.trans x y x e f)

  -- Two sorted lists with the same members have the same first member.
  same_head : (x y : X) (xs ys : List X) → AllByRecursion (λ z. cmp x z ≡ Less) xs
      → AllByRecursion (λ z. cmp y z ≡ Less) ys → Contains (y ∷ ys) x → Contains (x ∷ xs) y → x ≡ y
  same_head x y xs ys below above c d = grind (arith, common_steps, Contains-cons_cases, each_of, not_both)

  -- If two sorted lists begin with the same member, a later member of one that the other has is a later member there.
  kept : (x y : X) (xs ys : List X) → x ≡ y → AllByRecursion (λ z. cmp x z ≡ Less) xs → (z : X) → Contains xs z
      → Contains (y ∷ ys) z → Contains ys z
  kept x y xs ys same below z c d = grind (arith, common_steps, Contains-cons_cases, each_of, not_below_itself)

  same_lists : (xs ys : List X) → IsStrictlySortedBy cmp xs → IsStrictlySortedBy cmp ys
      → ((z : X) → Contains xs z → Contains ys z) → ((z : X) → Contains ys z → Contains xs z) → xs ≡ ys
  unfolding IsStrictlySortedBy
  same_lists [] [] r q f g = refl
  same_lists [] (y ∷ ys) r q f g = absurd (Contains-none y (g y (Contains-head y ys)))
  same_lists (x ∷ xs) [] r q f g = absurd (Contains-none x (f x (Contains-head x xs)))
  same_lists (x ∷ xs) (y ∷ ys) r q f g =
      let same = same_head x y xs ys r.0 q.0 (f x (Contains-head x xs)) (g y (Contains-head y ys)) in
      let tails = same_lists xs ys r.1 q.1
      (λ z c. kept x y xs ys same r.0 z c (f z (Contains-later x xs z c)))
      (λ z c. kept y x ys xs (sym same) q.0 z c (g z (Contains-later y ys z c))) in
      cc

  pub one_listing : {P : X → Type 0} (xs ys : List X) → IsListing cmp P xs → IsListing cmp P ys → xs ≡ ys
  one_listing xs ys a b = same_lists xs ys a.rises b.rises (λ z c. b.complete z (a.sound z c))
      (λ z c. a.complete z (b.sound z c))
