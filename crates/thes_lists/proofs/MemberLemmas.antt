-- Membership in a list, defined by recursion, is equivalent to `Contains`.
use Rattle.std.proofs.Common.{◌≡◌, ◌⊎◌, inl, inr, zero, suc, List, [], ◌∷◌, Contains, refl, subst, arith}
use Rattle.std.specs.List.{AllByRecursion}

module _ {A : Type 0} where
  -- The list has the value, as a definition by recursion on the list.
  abbrev pub Has : List A → A → Type 0
  Has [] x = ⊥
  Has (k ∷ ks) x = (k ≡ x) ⊎ Has ks x

  pub Has-from : (ks : List A) (x : A) → Contains ks x → Has ks x
  Has-from [] x (i, l, e) = absurd (omega arith)
  Has-from (k ∷ ks) x (zero, l, e) = inl e
  Has-from (k ∷ ks) x (suc i, l, e) = inr (Has-from ks x (i, omega arith, e))

  pub Contains-from : (ks : List A) (x : A) → Has ks x → Contains ks x
  Contains-from [] x has = absurd has
  Contains-from (k ∷ ks) x (inl same) = (0, omega arith, same)
  Contains-from (k ∷ ks) x (inr later) = let c = Contains-from ks x later in
      (suc c.0, (let l = c.1 in omega arith), c.2)

  pub all_from_has : (P : A → Type 0) (ks : List A) → ((x : A) → Has ks x → P x) → AllByRecursion P ks
  all_from_has P [] each = tt
  all_from_has P (k ∷ ks) each = (each k (inl refl), all_from_has P ks (λ x has. each x (inr has)))

  pub has_from_all : (P : A → Type 0) (ks : List A) (x : A) → AllByRecursion P ks → Has ks x → P x
  has_from_all P [] x all has = absurd has
  has_from_all P (k ∷ ks) x all (inl same) = subst P same all.0
  has_from_all P (k ∷ ks) x all (inr later) = has_from_all P ks x all.1 later
