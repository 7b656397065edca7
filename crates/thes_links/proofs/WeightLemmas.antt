-- The length of a list of distinct items is at most the sum of their weights, if each weighs one or more.
use Rattle.std.proofs.lemmas.Grind.{common_steps}
use Rattle.std.proofs.Common.{◌≡◌, ◌≢◌, ◌+◌, ◌≤◌, inl, inr, ℕ, zero, suc, List, [], ◌∷◌, ◌++◌, length, take, drop}
use Rattle.std.proofs.Common.{◌<◌, ap, sym, subst, ◌∙◌, arith, Some, None, slice_get, Contains, AllPairs, sum_by}
use Rattle.std.proofs.lemmas.Option.{slice_get_within, slice_get_cases, get_or_from_slice_get, none-some}
use Rattle.std.proofs.lemmas.List.{take_more, get_or-take, length-take}
use Rattle.std.proofs.lemmas.List.Elements.{Contains-append_left, Contains-append_right, Contains-append_cases}
use Rattle.std.proofs.lemmas.List.Sums.{sum_by-append, sum_by-cons}
use Rattle.thes_base.proofs.ListMemberLemmas.{Contains-none, Contains-head, Contains-later, Contains-cons_cases}

-- A prefix of a list with the next item appended is the next longer prefix.
pub take_next : {X : Type 0} (xs : List X) (i : ℕ) (x : X) → Some x ≡ slice_get xs i → take (i + 1) xs ≡ take i xs
    ++ x ∷ []
take_next xs i x e =
    take_more xs i x (slice_get_within xs i x (sym e)) ∙ ap (λ y. take i xs ++ y ∷ [])
    (get_or_from_slice_get xs i x x (sym e))

-- A read at an index finds no item only if the index is past the end.
pub past_of_none : {X : Type 0} (xs : List X) (i : ℕ) → slice_get xs i ≡ None → length xs ≤ i
past_of_none xs i none = grind (arith, common_steps, none-some, slice_get_cases)

module _ {X : Type 0} where
  -- A list with an item is the items before it, the item, and those after it.
  pub cut : (xs : List X) (x : X) → Contains xs x → (before : List X) × (after : List X) × (xs ≡ before ++ x ∷ after)
  cut [] x has = absurd (Contains-none x has)
  cut (y ∷ xs) x has =
      elim (Contains-cons_cases y xs x has) [
        | inl same ↦ ([], xs, ap (λ w. w ∷ xs) same)
        | inr later ↦ let c = cut xs x later in (y ∷ c.0, c.1, ap (λ ws. y ∷ ws) c.2)
      ]

  abbrev pub IsOnce : List X → Type 0
  IsOnce [] = Unit {0}
  IsOnce (x ∷ xs) = ((y : X) → Contains xs y → x ≢ y) × IsOnce xs

  pub once_from_pairs : (xs : List X) → AllPairs (λ x y. x ≢ y) xs → IsOnce xs
  once_from_pairs [] apart = tt
  once_from_pairs (x ∷ xs) apart = (
    (λ y (k, lt, e) same. apart 0 (suc k) y (omega arith) (omega arith) (same ∙ sym e)),
    once_from_pairs xs (λ i j d lt inside. apart (suc i) (suc j) d (omega arith) (omega arith)),
  )

  -- Distinct items stay distinct when the first ones are dropped.
  pub once_drop : (i : ℕ) (xs : List X) → IsOnce xs → IsOnce (drop i xs)
  once_drop zero xs once = once
  once_drop (suc i) [] once = once
  once_drop (suc i) (x ∷ xs) once = once_drop i xs once.1

  pub Contains-take : (i : ℕ) (xs : List X) (x : X) → Contains (take i xs) x → Contains xs x
  Contains-take i xs x (k, lt, is) =
      let below : k < i = omega (arith, length-take i xs) in
      (k, omega (arith, length-take i xs), sym (get_or-take i xs k x below) ∙ is)

  pub once_take : (i : ℕ) (xs : List X) → IsOnce xs → IsOnce (take i xs)
  once_take zero xs once = tt
  once_take (suc i) [] once = once
  once_take (suc i) (x ∷ xs) once = ((λ y has. once.0 y (Contains-take i xs y has)), once_take i xs once.1)

  -- A list of distinct items of ns, each of weight one or more, is at most as long as the sum of the weights of ns.
  pub length-once : (weight : X → ℕ) (xs ns : List X) → IsOnce xs → ((x : X) → Contains xs x → Contains ns x)
      → ((x : X) → Contains xs x → 1 ≤ weight x) → length xs ≤ sum_by weight ns
  length-once weight [] ns once within heavy = omega arith
  length-once weight (x ∷ xs) ns once within heavy =
      let c = cut ns x (within x (Contains-head x xs)) in
      let rest : length xs ≤ sum_by weight (c.0 ++ c.1) =
      length-once weight xs (c.0 ++ c.1) once.1 (inside c.0 c.1 c.2) (λ y has. heavy y (Contains-later x xs y has)) in
      let one : 1 ≤ weight x = heavy x (Contains-head x xs) in
      let whole : sum_by weight ns ≡ sum_by weight c.0 + sum_by weight (x ∷ c.1) = ap (sum_by weight) c.2
      ∙ sum_by-append weight c.0 (x ∷ c.1) in
      let head : sum_by weight (x ∷ c.1) ≡ weight x + sum_by weight c.1 = sum_by-cons weight x c.1 in
      let parts : sum_by weight (c.0 ++ c.1) ≡ sum_by weight c.0 + sum_by weight c.1 = sum_by-append weight c.0 c.1 in
      omega arith
    where
      inside : (before after : List X) → ns ≡ before ++ x ∷ after → (y : X) → Contains xs y
          → Contains (before ++ after) y
      inside before after is y has =
          elim (Contains-append_cases before (x ∷ after) y
          (subst (λ (ws : List X). Contains ws y) is (within y (Contains-later x xs y has)))) [
            | inl left ↦ Contains-append_left before after y left
            | inr right ↦ elim (Contains-cons_cases x after y right) [
              | inl same ↦ absurd (once.0 y has same)
              | inr later ↦ Contains-append_right before after y later
            ]
          ]

  pub length-apart : (weight : X → ℕ) (xs ns : List X) → AllPairs (λ x y. x ≢ y) xs
      → ((x : X) → Contains xs x → Contains ns x) → ((x : X) → Contains xs x → 1 ≤ weight x) → length xs
      ≤ sum_by weight ns
  length-apart weight xs ns apart = length-once weight xs ns (once_from_pairs xs apart)
