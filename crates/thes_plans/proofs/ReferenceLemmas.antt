-- The check of references is right for one reference, for a request, and for the requests up to an index.
use Rattle.std.proofs.Common.{◌≡◌, ◌++◌, ◌∷◌, [], ◌<◌, ◌≤◌, ◌+◌, ◌∙◌, ℕ, suc, List, refl, sym, ap, subst, take, length}
use Rattle.std.proofs.Common.{arith, inl, inr}
use Rattle.std.proofs.lemmas.List.{take_more, take_all, take-append-le}
use Rattle.std.proofs.lemmas.Option.{slice_get_within, get_or_from_slice_get}
use Rattle.std.specs.Prelude.{◌↔◌, Bool, IsTrue, Option, Some, slice_get}
use Rattle.thes_base.specs.Resources.{entry_at}
use Rattle.thes_base.specs.declared.request.Command.{Command}
use Rattle.thes_base.specs.declared.request.Command.TheVariants as request
use Rattle.thes_base.proofs.NumberedLemmas.{push_cases}
use Rattle.thes_plans.specs.declared.plan.PlanRequest.{PlanRequest}
use Rattle.thes_plans.specs.References.{AreGoodReferences, HasGoodReferences, IsGoodReference, IsFirstBadReference}
use Rattle.thes_plans.specs.References.{MakesFirst, MakesResource}

-- A reference to a request is good exactly when `Makes` holds of the command of that request.
pub reference_at : (Makes : Command → Type 0) (earlier : List PlanRequest) (reference : Option ℕ) (place : ℕ)
    (made : PlanRequest) (b : Bool) → reference ≡ Some place → entry_at earlier place ≡ Some made
    → IsTrue b ↔ Makes made.command → IsTrue b ↔ IsGoodReference Makes earlier reference
reference_at Makes earlier reference place made b to at is =
    subst (λ (r : Option ℕ). IsTrue b ↔ IsGoodReference Makes earlier r) (sym to) (
      (λ t. (made, at, is.0 t)),
      λ good. is.1 (let e = good.1 in let same : good.0 ≡ made = cc in
          subst (λ (p : PlanRequest). Makes p.command) same good.2),
    )

-- The reference for the first number of a command other than a Withdraw must be to a request that creates a resource.
pub good_first : (c : Command) (earlier : List PlanRequest) (reference : Option ℕ) (b : Bool)
    → ((posting : ℕ) → c ≡ request.Withdraw posting → ⊥) → IsTrue b ↔ IsGoodReference MakesResource earlier reference
    → IsTrue b ↔ IsGoodReference (MakesFirst c) earlier reference
good_first (request.Withdraw posting) earlier reference b other is = absurd (other posting refl)
good_first _ earlier reference b other is = is

-- The empty prefix of a plan has good references.
pub good_empty : (plan : List PlanRequest) → AreGoodReferences (take 0 plan)
good_empty plan index asked at = absurd (cc)

-- The prefix up to and including the request at the index ends with that request.
take_got : (xs : List PlanRequest) (i : ℕ) (x : PlanRequest) → slice_get xs i ≡ Some x
    → take (i + 1) xs ≡ take i xs ++ x ∷ []
take_got xs i x e = take_more xs i x (slice_get_within xs i x e)
    ∙ ap (λ (y : PlanRequest). take i xs ++ y ∷ []) (get_or_from_slice_get xs i x x e)

good_push : (xs : List PlanRequest) (r : PlanRequest) → AreGoodReferences xs → HasGoodReferences xs r
    → AreGoodReferences (xs ++ r ∷ [])
good_push xs r good new i asked at = elim (push_cases xs r asked (suc i) at) [
  | inl here ↦
      let within : i < length xs = slice_get_within xs i asked here in
      subst (λ (ys : List PlanRequest). HasGoodReferences ys asked)
      (sym (take-append-le i xs (r ∷ []) (omega arith))) (good i asked here)
  | inr last ↦
      let front : take i (xs ++ r ∷ []) ≡ xs = take-append-le i xs (r ∷ []) (omega (arith, last.0))
      ∙ take_all i xs (omega (arith, last.0)) in
      subst (λ (ys : List PlanRequest). HasGoodReferences ys asked) (sym front)
      (subst (HasGoodReferences xs) (sym last.1) new)
]

-- If the first n requests have good references, and so has the one at index n, the first n + 1 have good references.
pub good_more : (plan : List PlanRequest) (n : ℕ) (asked : PlanRequest) → slice_get plan n ≡ Some asked
    → HasGoodReferences (take n plan) asked → AreGoodReferences (take n plan) → AreGoodReferences (take (n + 1) plan)
good_more plan n asked at new good =
    subst AreGoodReferences (sym (take_got plan n asked at)) (good_push (take n plan) asked good new)

-- If a plan has at most n requests, and its first n have good references, all have.
pub good_all : (plan : List PlanRequest) (n : ℕ) → length plan ≤ n → AreGoodReferences (take n plan)
    → AreGoodReferences plan
good_all plan n past good = subst AreGoodReferences (take_all n plan past) good

-- If the first n requests have good references, and the one at index n hasn't, it is the first with a bad reference.
pub bad_at : (plan : List PlanRequest) (n : ℕ) (asked : PlanRequest) → slice_get plan n ≡ Some asked
    → AreGoodReferences (take n plan) → (HasGoodReferences (take n plan) asked → ⊥) → IsFirstBadReference plan (n + 1)
bad_at plan n asked at good bad = record {
  index = n;
  place_is = refl;
  asked = asked;
  at = at;
  good_before = good;
  bad = bad;
}
