-- The members of a list, of its image under a function, and of the list of its elements that pass a test.
use Rattle.std.proofs.Common.{◌≡◌, ◌⊎◌, inl, inr, zero, suc, List, [], ◌∷◌, Bool, true, false, cond, Contains, map}
use Rattle.std.proofs.Common.{refl, sym, ap, subst, ◌∙◌, arith}
use Rattle.std.specs.Prelude.{filter}
use Rattle.std.proofs.lemmas.Bool.{both_ways}

module _ {X : Type 0} where
  pub Contains-none : (x : X) → Contains [] x → ⊥
  Contains-none x (k, lt, e) = absurd (omega arith)

  pub Contains-head : (x : X) (xs : List X) → Contains (x ∷ xs) x
  Contains-head x xs = (0, omega arith, refl)

  pub Contains-later : (x : X) (xs : List X) (y : X) → Contains xs y → Contains (x ∷ xs) y
  Contains-later x xs y (k, lt, e) = (suc k, omega arith, e)

  pub Contains-cons_cases : (x : X) (xs : List X) (y : X) → Contains (x ∷ xs) y → (x ≡ y) ⊎ Contains xs y
  Contains-cons_cases x xs y (zero, lt, e) = inl e
  Contains-cons_cases x xs y (suc k, lt, e) = inr (k, omega arith, e)

pub Contains-map : {X Y : Type 0} → (f : X → Y) (xs : List X) (x : X) → Contains xs x → Contains (map f xs) (f x)
Contains-map f [] x has = absurd (Contains-none x has)
Contains-map {X} {Y} f (y ∷ ys) x has = elim (Contains-cons_cases y ys x has) [
  | inl same ↦ subst (λ (z : X). Contains (map f (y ∷ ys)) (f z)) same (Contains-head (f y) (map f ys))
  | inr later ↦ Contains-later (f y) (map f ys) (f x) (Contains-map f ys x later)
]

pub Contains-from_map : {X Y : Type 0} → (f : X → Y) (xs : List X) (y : Y) → Contains (map f xs) y → (x : X)
    × Contains xs x × (f x ≡ y)
Contains-from_map f [] y has = absurd (Contains-none y has)
Contains-from_map f (x ∷ xs) y has = elim (Contains-cons_cases (f x) (map f xs) y has) [
  | inl same ↦ (x, Contains-head x xs, same)
  | inr later ↦ let r = Contains-from_map f xs y later in (r.0, Contains-later x xs r.0 r.1, r.2)
]

pub Contains-filter : {X : Type 0} → (p : X → Bool) (xs : List X) (x : X) → Contains xs x → p x ≡ true
    → Contains (filter p xs) x
Contains-filter p [] x has passes = absurd (Contains-none x has)
Contains-filter {X} p (y ∷ ys) x has passes = go (λ rest. Contains-filter p ys x rest passes) (p y) refl
    (Contains-cons_cases y ys x has)
  where
    go : (Contains ys x → Contains (filter p ys) x) → (b : Bool) → p y ≡ b → (y ≡ x) ⊎ Contains ys x
        → Contains (cond b (y ∷ filter p ys) (filter p ys)) x
    go later true is (inl same) = subst (λ (z : X). Contains (y ∷ filter p ys) z) same (Contains-head y (filter p ys))
    go later true is (inr rest) = Contains-later y (filter p ys) x (later rest)
    go later false is (inl same) = absurd (both_ways (p y) is (ap p same ∙ passes))
    go later false is (inr rest) = later rest

pub Contains-from_filter : {X : Type 0} → (p : X → Bool) (xs : List X) (x : X) → Contains (filter p xs) x
    → Contains xs x × (p x ≡ true)
Contains-from_filter p [] x has = absurd (Contains-none x has)
Contains-from_filter {X} p (y ∷ ys) x has = go (λ rest. let r = Contains-from_filter p ys x rest in
    (Contains-later y ys x r.0, r.1)) (p y) refl has
  where
    go : (Contains (filter p ys) x → Contains (y ∷ ys) x × (p x ≡ true)) → (b : Bool) → p y ≡ b
        → Contains (cond b (y ∷ filter p ys) (filter p ys)) x → Contains (y ∷ ys) x × (p x ≡ true)
    go later true is has = elim (Contains-cons_cases y (filter p ys) x has) [
      | inl same ↦ (subst (λ (z : X). Contains (y ∷ ys) z) same (Contains-head y ys), ap p (sym same) ∙ is)
      | inr rest ↦ later rest
    ]
    go later false is has = later has
