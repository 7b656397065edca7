-- The members of a finite set after a change, if values that compare equal are equal.
use Rattle.std.proofs.Common.{◌≡◌, ◌≢◌, ◌⊎◌, ◌+◌, inl, inr, List, Bool, true, false, cond, ◌&&◌, Contains, refl, sym}
use Rattle.std.proofs.Common.{ap, ◌∙◌, ◌||◌}
use Rattle.std.specs.declared.cmp.Ordering.{Ordering}
use Rattle.std.specs.declared.cmp.Ordering.TheVariants.{Less, Equal, Greater}
use Rattle.std.specs.Ordering.{eq_by_cmp, is_eq, ordering_then}
use Rattle.std.specs.Cmp.{IsTotalOrder, tied_itself, Equal-is, both_ways as same_test}
use Rattle.std.specs.FinSet.{FinSet, IsAntisymmetric, contains, insert, remove, retain, union, items, from_list, len}
use Rattle.std.specs.FinSet.{same_set, contains-insert, contains-remove, contains-retain, contains-union}
use Rattle.std.specs.FinSet.{contains-items, contains-from_list, len-insert}
use Rattle.std.proofs.lemmas.Bool.{cases_Bool, or_cases, or_left, or_right, and_parts, and_from, not-true}
use Rattle.std.proofs.lemmas.Bool.{not_from_false, both_ways, false_from_ne_true}
use Rattle.std.proofs.lemmas.Cmp.{eq_by_cmp_equiv}
use Rattle.std.proofs.lemmas.Map.Views.{list_any-from_Contains, Contains-from_any}

-- The first two tests of a disjunction may be swapped.
pub or_swap : (a b c : Bool) → (a || (b || c)) ≡ (b || (a || c))
or_swap true true c = refl
or_swap true false c = refl
or_swap false b c = refl

-- A comparison by two orders in sequence gives `Equal` exactly when both orders do.
pub both_equal : (a b : Ordering) → is_eq (ordering_then a b) ≡ (is_eq a && is_eq b)
both_equal Less b = refl
both_equal Equal b = refl
both_equal Greater b = refl

pub then_assoc : (a b c : Ordering) → ordering_then (ordering_then a b) c ≡ ordering_then a (ordering_then b c)
then_assoc Less b c = refl
then_assoc Equal b c = refl
then_assoc Greater b c = refl

module _ {K : Type 0} {R : K → K → Ordering} (total : IsTotalOrder R) (exact : IsAntisymmetric R) where
  tied : (x y : K) → eq_by_cmp R x y ≡ true → x ≡ y
  tied x y e = exact x y ((Equal-is (R x y)).0 e)

  tied_to : (x y : K) → x ≡ y → eq_by_cmp R x y ≡ true
  tied_to x y same = ap (λ z. eq_by_cmp R x z) (sym same) ∙ ap is_eq (tied_itself total x)

  pub same_or_not : (x y : K) → (x ≡ y) ⊎ (x ≢ y)
  same_or_not x y = elim (cases_Bool (eq_by_cmp R x y)) [
    | inl e ↦ inl (tied x y e)
    | inr e ↦ inr (λ same. both_ways _ e (tied_to x y same))
  ]

  pub inserted_cases : (s : FinSet R) (k q : K) → contains (insert s k) q ≡ true → (q ≡ k) ⊎ (contains s q ≡ true)
  inserted_cases s k q e = elim (or_cases _ _ (sym (contains-insert total s k q) ∙ e))
      [ inl same ↦ inl (tied q k same) | inr old ↦ inr old ]

  pub inserted_kept : (s : FinSet R) (k q : K) → contains s q ≡ true → contains (insert s k) q ≡ true
  inserted_kept s k q e = contains-insert total s k q ∙ or_right _ _ e

  pub inserted_new : (s : FinSet R) (k : K) → contains (insert s k) k ≡ true
  inserted_new s k = contains-insert total s k k ∙ or_left _ _ (tied_to k k refl)

  -- A new value adds one to the number of members.
  pub len_inserted : (s : FinSet R) (k : K) → contains s k ≡ false → len (insert s k) ≡ len s + 1
  len_inserted s k fresh = len-insert total s k ∙ ap (λ b. cond b (len s) (len s + 1)) fresh

  pub len_there : (s : FinSet R) (k : K) → contains s k ≡ true → len (insert s k) ≡ len s
  len_there s k there = len-insert total s k ∙ ap (λ b. cond b (len s) (len s + 1)) there

  pub removed_cases : (s : FinSet R) (k q : K) → contains (remove s k) q ≡ true → (q ≢ k) × (contains s q ≡ true)
  removed_cases s k q e =
      let both = and_parts _ _ (sym (contains-remove total s k q) ∙ e) in
      (λ same. both_ways _ (not-true _ both.0) (tied_to q k same), both.1)

  pub removed_kept : (s : FinSet R) (k q : K) → q ≢ k → contains s q ≡ true → contains (remove s k) q ≡ true
  removed_kept s k q other e = contains-remove total s k q
      ∙ and_from _ _ (not_from_false _ (false_from_ne_true _ (λ same. other (tied q k same)))) e

  retained : (s : FinSet R) (test : K → Bool) (q : K) → contains (retain s test) q ≡ (contains s q && test q)
  retained s test q = contains-retain s test q (λ x t. ap test (sym (exact q x t)))

  pub retained_from : (s : FinSet R) (test : K → Bool) (q : K) → contains (retain s test) q ≡ true
      → (contains s q ≡ true) × (test q ≡ true)
  retained_from s test q e = and_parts _ _ (sym (retained s test q) ∙ e)

  pub retained_to : (s : FinSet R) (test : K → Bool) (q : K) → contains s q ≡ true → test q ≡ true
      → contains (retain s test) q ≡ true
  retained_to s test q e passes = retained s test q ∙ and_from _ _ e passes

  pub from_list_of : (ks : List K) (q : K) → contains (from_list {R = R} ks) q ≡ true → Contains ks q
  from_list_of ks q e = Contains-from_any tied q ks (sym (contains-from_list total ks q) ∙ e)

  pub from_list_has : (ks : List K) (q : K) → Contains ks q → contains (from_list {R = R} ks) q ≡ true
  from_list_has ks q has = contains-from_list total ks q ∙ list_any-from_Contains (eq_by_cmp_equiv total) q ks has

  pub items_of : (s : FinSet R) (q : K) → Contains (items s) q → contains s q ≡ true
  items_of s q has = contains-items s q ∙ list_any-from_Contains (eq_by_cmp_equiv total) q (items s) has

  pub items_has : (s : FinSet R) (q : K) → contains s q ≡ true → Contains (items s) q
  items_has s q e = Contains-from_any tied q (items s) (sym (contains-items s q) ∙ e)

  pub union_cases : (s t : FinSet R) (q : K) → contains (union s t) q ≡ true → (contains s q ≡ true)
      ⊎ (contains t q ≡ true)
  union_cases s t q e = or_cases _ _ (sym (contains-union total s t q) ∙ e)

  -- Sets with the same members are equal.
  pub same_members : (s t : FinSet R) → ((q : K) → contains s q ≡ true → contains t q ≡ true)
      → ((q : K) → contains t q ≡ true → contains s q ≡ true) → s ≡ t
  same_members s t to from = same_set total exact s t (λ q. same_test _ _ (to q) (from q))
