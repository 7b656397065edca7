-- The end of a concept's replacements, and the moves of a new posting along them.
use Rattle.std.proofs.Common.{◌≡◌, ◌≢◌, ◌⊎◌, ◌<◌, ◌≤◌, ℕ, zero, suc, ◌+◌, length, List, [], ◌∷◌, refl, sym, ap, ◌∙◌}
use Rattle.std.proofs.Common.{subst, arith, inl, inr, true, false, eqb, eqb-true, ne_eqb}
use Rattle.std.specs.Prelude.{Option, None, Some, option_and_then}
use Rattle.std.specs.List.{AllByRecursion, list_any, IsDistinct}
use Rattle.std.proofs.lemmas.Bool.{or_cases}
use Rattle.std.proofs.lemmas.Map.Keys.{IsDistinct-cons}
use Rattle.std.proofs.lemmas.Map.Steps.{length-le_from_distinct_below}
use Rattle.std.proofs.lemmas.List.Sums.{sum_by_push}
use Rattle.thes_base.specs.declared.data.Resource.{Resource}
use Rattle.thes_base.specs.declared.data.History.{History}
use Rattle.thes_base.specs.Resources.{entry_at, IsConcept, IsReplacedBy, replacement_of, replacements_within}
use Rattle.thes_base.specs.Resources.{replacements}
use Rattle.thes_base.specs.Links.{Path, Chain}
use Rattle.thes_base.specs.Postings.{place_after_moves, AreConsecutiveMoves, path_end, moves_along, move_count}
use Rattle.thes_base.specs.Changes.{histories_after_post}
use Rattle.thes_base.specs.Legal.{AreLegalResources, IsLegalMove, AllMoves, HasMove}
use Rattle.thes_base.specs.Laws.{AreReplacements, LeadsToEnd}
use Rattle.thes_base.proofs.MoveLemmas.{all_moves}
use Rattle.thes_base.proofs.NumberedLemmas.{numbered_bound}

pub along_led : (number from : ℕ) (way : List ℕ) → place_after_moves from (moves_along number from way)
    ≡ path_end from way
along_led number from [] = refl
along_led number from (n ∷ way) = along_led (number + 1) n way

pub along_length : (number from : ℕ) (way : List ℕ) → length (moves_along number from way) ≡ length way
along_length number from [] = refl
along_length number from (n ∷ way) = ap suc (along_length (number + 1) n way)

pub along_follows : (above number from : ℕ) (way : List ℕ) → above < number → AreConsecutiveMoves above from
    (moves_along number from way)
along_follows above number from [] less = tt
along_follows above number from (n ∷ way) less = (less, refl, along_follows number (number + 1) n way (omega arith))

-- The numbers of the moves along a path are in the range that begins at `number` and has one number for each concept.
pub along_numbers : (number from : ℕ) (way : List ℕ)
    → AllMoves (λ m. (number ≤ m.number) × (m.number < number + length way)) (moves_along number from way)
along_numbers number from [] = tt
along_numbers number from (n ∷ way) = (
  (omega arith, omega arith),
  all_moves _ _ (λ m l. (let a = l.0 in omega (arith, a), let b = l.1 in omega (arith, b)))
      (moves_along (number + 1) n way) (along_numbers (number + 1) n way),
)

-- The moves along a path have each number of their range.
pub along_has : (k number from : ℕ) (way : List ℕ) → number ≤ k → k < number + length way
    → HasMove k (moves_along number from way)
along_has k number from [] least most = absurd (omega arith)
along_has k number from (n ∷ way) least most =
    at (first number k least) (λ l. along_has k (number + 1) n way l (omega arith))
  where
    first : (number k : ℕ) → number ≤ k → (number ≡ k) ⊎ (number + 1 ≤ k)
    first zero zero l = inl refl
    first zero (suc k) l = inr (omega arith)
    first (suc m) zero l = absurd (omega arith)
    first (suc m) (suc k) l = elim (first m k (omega arith)) [
      | inl same ↦ inl (ap suc same)
      | inr less ↦ inr (omega arith)
    ]

    at : (number ≡ k) ⊎ (number + 1 ≤ k) → (number + 1 ≤ k → HasMove k (moves_along (number + 1) n way))
        → HasMove k (moves_along number from (n ∷ way))
    at (inl same) rest = inl same
    at (inr later) rest = inr (rest later)

-- A new posting adds one move for each concept of its path.
pub count_posted : (key rec : List ℕ) (concept : ℕ) (way : List ℕ) (hs : List History)
    → move_count (histories_after_post key rec concept way hs) ≡ move_count hs + length way
count_posted key rec concept way hs =
    sum_by_push (λ (h : History). length h.moves) hs _ ∙ ap (λ n. move_count hs + n)
    (along_length (move_count hs + 1) concept way)

pub each_of : (P Q : ℕ → Type 0) → ((y : ℕ) → P y → Q y) → (xs : List ℕ) → AllByRecursion P xs → AllByRecursion Q xs
each_of P Q gives [] all = tt
each_of P Q gives (x ∷ xs) all = (gives x all.0, each_of P Q gives xs all.1)

pub any_of : (P : ℕ → Type 0) (q : ℕ) (xs : List ℕ) → AllByRecursion P xs → list_any (eqb q) xs ≡ true → P q
any_of P q [] all e = absurd (cc)
any_of P q (x ∷ xs) all e = elim (or_cases _ _ e) [
  | inl same ↦ subst P (sym (eqb-true q x same)) all.0
  | inr rest ↦ any_of P q xs all.1 rest
]

pub none_twice : IsDistinct eqb []
unfolding IsDistinct
none_twice = tt

module _ (rs : List Resource) where
  pub next_is : (m n : ℕ) → replacement_of rs m ≡ Some n → IsReplacedBy rs m n
  next_is m n = go (entry_at rs m) refl
    where
      go : (o : Option Resource) → entry_at rs m ≡ o → option_and_then (λ (r : Resource). r.replaced) o ≡ Some n
          → IsReplacedBy rs m n
      go None at e = absurd (cc)
      go (Some r) at e = (r, at, e)

  pub is_next : (m n : ℕ) → IsReplacedBy rs m n → replacement_of rs m ≡ Some n
  is_next m n (r, at, is) = ap (option_and_then (λ (x : Resource). x.replaced)) at ∙ is

  -- The replacements within one more step begin with the replacement of the concept, if it has one.
  pub within_some : (steps m n : ℕ) → replacement_of rs m ≡ Some n → replacements_within rs (suc steps) m ≡ n
      ∷ replacements_within rs steps n
  within_some steps m n e = ap (λ (o : Option ℕ). elim o [ None ↦ [] | Some k ↦ k ∷ replacements_within rs steps k ]) e

  pub within_none : (steps m : ℕ) → replacement_of rs m ≡ None → replacements_within rs steps m ≡ []
  within_none zero m e = refl
  within_none (suc steps) m e =
      ap (λ (o : Option ℕ). elim o [ None ↦ [] | Some k ↦ k ∷ replacements_within rs steps k ]) e

  -- Induction on the steps: if the empty path has a property, and each further step keeps it, all paths of replacements
  -- have it.
  by_steps : (P : ℕ → ℕ → List ℕ → Type 0) → ((from : ℕ) → P 0 from [])
      → ((steps from : ℕ) → replacement_of rs from ≡ None → P (suc steps) from [])
      → ((steps from n : ℕ) (way : List ℕ) → IsReplacedBy rs from n → P steps n way → P (suc steps) from (n ∷ way))
      → (steps from : ℕ) → P steps from (replacements_within rs steps from)
  by_steps P none ends more zero from = none from
  by_steps P none ends more (suc steps) from = go (replacement_of rs from) refl (λ n. by_steps P none ends more steps n)
    where
      go : (o : Option ℕ) → replacement_of rs from ≡ o → ((n : ℕ) → P steps n (replacements_within rs steps n))
          → P (suc steps) from (replacements_within rs (suc steps) from)
      go None e rest = subst (P (suc steps) from) (sym (within_none (suc steps) from e)) (ends steps from e)
      go (Some n) e rest = subst (P (suc steps) from) (sym (within_some steps from n e))
          (more steps from n (replacements_within rs steps n) (next_is from n e) (rest n))

  each_replaced : (steps from : ℕ) → AreReplacements rs from (replacements_within rs steps from)
  each_replaced = by_steps (λ steps from way. AreReplacements rs from way) (λ from. tt) (λ steps from e. tt)
      (λ steps from n way step rest. (step, rest))

  -- If the end of a path of at most `steps` replacements is itself replaced, the path has exactly `steps` of them, and
  -- its start is replaced.
  all_made : (k steps from : ℕ) → IsReplacedBy rs (path_end from (replacements_within rs steps from)) k
      → (length (replacements_within rs steps from) ≡ steps) × ((n : ℕ) × IsReplacedBy rs from n)
  all_made k = by_steps (λ steps from way. IsReplacedBy rs (path_end from way) k → (length way ≡ steps)
      × ((n : ℕ) × IsReplacedBy rs from n)) (λ from is. (refl, (k, is)))
      (λ steps from e is. let bad : None ≡ Some k = sym e ∙ is_next from k is in absurd (cc))
      (λ steps from n way step rest is. (ap suc (rest is).0, (n, step)))

  abbrev LedTo : ℕ → ℕ → Type 0
  LedTo = Chain (IsReplacedBy rs)

  module _ (base : List ℕ) (iris : _) (legal : AreLegalResources base rs iris) where
    replacing : (m n : ℕ) → IsReplacedBy rs m n → (m ≢ n) × IsConcept rs n
    replacing m n (r, at, is) = let each = (legal.each m r at).replaced n is in (λ e. each.1 (sym e), each.2)

    chain_concept : (x : ℕ) (between : List ℕ) (y : ℕ) → Path (IsReplacedBy rs) x between y → IsConcept rs y
    chain_concept x [] y step = (replacing x y step).1
    chain_concept x (z ∷ between) y path = chain_concept z between y path.1

    led_apart : (from : ℕ) (way : List ℕ) → AllByRecursion (LedTo from) way → AllByRecursion (λ y. eqb from y ≡ false)
        way
    led_apart from = each_of (LedTo from) (λ y. eqb from y ≡ false)
        (λ y chain. ne_eqb from y (λ same. legal.no_return from (subst (LedTo from) (sym same) chain)))

    -- Replacements lead from the first concept to each concept of the path, and no concept is on it twice.
    each_once : (steps from : ℕ) → AllByRecursion (LedTo from) (replacements_within rs steps from)
        × IsDistinct eqb (replacements_within rs steps from)
    each_once = by_steps (λ steps from way. AllByRecursion (LedTo from) way × IsDistinct eqb way)
        (λ from. (tt, none_twice)) (λ steps from e. (tt, none_twice))
        (λ steps from n way step rest. (
          (([], step), each_of (LedTo n) (LedTo from) (λ y chain. (n ∷ chain.0, (step, chain.1))) way rest.0),
          IsDistinct-cons eqb n way (led_apart n way rest.0) rest.1,
        ))

    led_bound : (from y : ℕ) → LedTo from y → (1 ≤ y) × (y ≤ length rs)
    led_bound from y chain = let c = chain_concept from chain.0 y chain.1 in numbered_bound rs y c.0 c.1

    -- The path of a replaced concept is shorter than the list of resources, since its concepts differ.
    never_all : (from n : ℕ) → IsReplacedBy rs from n → length (replacements rs from) ≡ length rs → ⊥
    never_all from n (r, at, is) full =
        let bound = numbered_bound rs from r at in
        let way = replacements rs from in
        let once = each_once (length rs) from in
        let apart : AllByRecursion (λ y. eqb 0 y ≡ false) (from ∷ way) = (
          ne_eqb 0 from (λ e. let b = bound.0 in omega (arith, b, e)),
          each_of (LedTo from) (λ y. eqb 0 y ≡ false)
              (λ y chain. ne_eqb 0 y (λ e. let b = (led_bound from y chain).0 in omega (arith, b, e))) way once.0,
        ) in
        let below : AllByRecursion (λ y. y < length rs + 1) (0 ∷ from ∷ way) = (
          omega arith,
          (
            (let b = bound.1 in omega (arith, b)),
            each_of (LedTo from) (λ y. y < length rs + 1)
                (λ y chain. let b = (led_bound from y chain).1 in omega (arith, b)) way once.0,
          ),
        ) in
        let all_distinct = IsDistinct-cons eqb 0 (from ∷ way) apart
        (IsDistinct-cons eqb from way (led_apart from way once.0) once.1) in
        let most = length-le_from_distinct_below (0 ∷ from ∷ way) (length rs + 1) all_distinct
        (λ q has. any_of (λ y. y < length rs + 1) q (0 ∷ from ∷ way) below has) in
        omega (arith, most, full)

    pub forwards_to_end : (from : ℕ) → LeadsToEnd rs from (replacements rs from)
    forwards_to_end from = record {
      steps = each_replaced (length rs) from;
      ends = λ k is. let made = all_made k (length rs) from is in never_all from made.1.0 made.1.1 made.0;
    }

    -- The end of a path of replacements from a concept is a concept.
    pub end_concept : (from : ℕ) (way : List ℕ) → IsConcept rs from → AreReplacements rs from way
        → IsConcept rs (path_end from way)
    end_concept from [] is steps = is
    end_concept from (n ∷ way) is steps = end_concept n way (replacing from n steps.0).1 steps.1

    pub along_legal : (number from : ℕ) (way : List ℕ) → IsConcept rs from → AreReplacements rs from way
        → AllMoves (IsLegalMove rs) (moves_along number from way)
    along_legal number from [] is steps = tt
    along_legal number from (n ∷ way) is steps = let to = replacing from n steps.0 in
        ((is, to.1, to.0), along_legal (number + 1) n way to.1 steps.1)
