-- The values of all lists are those that are listed under some number.
use Rattle.std.proofs.Common.{ℕ, zero, suc, List, [], ◌∷◌, inl, inr, Contains, Vec, Global}
use Rattle.std.specs.Prelude.{slice_get, flat_map}
use Rattle.std.specs.Option.{option_map_or}
use Rattle.std.proofs.lemmas.List.Elements.{Contains-append_left, Contains-append_right, Contains-append_cases}
use Rattle.thes_base.proofs.ListMemberLemmas.{Contains-none}
use Rattle.thes_lists.specs.declared.lists.Lists.{Lists}
use Rattle.thes_lists.specs.Lists.{listed_at, all_listed}

module _ {A : Type 0} where
  abbrev values_of : Vec A Global → List A
  values_of v = v.items

  abbrev values_at : List (Vec A Global) → ℕ → List A
  values_at vs n = option_map_or values_of (slice_get vs n) []

  found_in_some : (vs : List (Vec A Global)) (x : A) → Contains (flat_map values_of vs) x → (n : ℕ)
      × Contains (values_at vs n) x
  found_in_some [] x has = absurd (Contains-none x has)
  found_in_some (v ∷ vs) x has = elim (Contains-append_cases v.items (flat_map values_of vs) x has) [
    | inl here ↦ (0, here)
    | inr later ↦ let r = found_in_some vs x later in (suc r.0, r.1)
  ]

  found_in_all : (vs : List (Vec A Global)) (n : ℕ) (x : A) → Contains (values_at vs n) x
      → Contains (flat_map values_of vs) x
  found_in_all [] n x has = absurd (Contains-none x has)
  found_in_all (v ∷ vs) zero x has = Contains-append_left v.items (flat_map values_of vs) x has
  found_in_all (v ∷ vs) (suc n) x has = Contains-append_right v.items (flat_map values_of vs) x
      (found_in_all vs n x has)

  -- A value of some list is listed under a number.
  pub listed_under : (lists : Lists A) (x : A) → Contains (all_listed lists) x → (n : ℕ)
      × Contains (listed_at lists n) x
  listed_under lists = found_in_some lists.lists.items

  -- A value that is listed under a number is among the values of all lists.
  pub all_have : (lists : Lists A) (n : ℕ) (x : A) → Contains (listed_at lists n) x → Contains (all_listed lists) x
  all_have lists = found_in_all lists.lists.items
