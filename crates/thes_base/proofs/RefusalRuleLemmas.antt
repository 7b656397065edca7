-- Checks give at most one answer, and it isn't the case that they give none.
use Rattle.std.proofs.Common.{◌≡◌, ◌⊎◌, ℕ, sym, ap, ◌∙◌, refl, ⊎_elim, inl, inr, List, [], ◌∷◌}
use Rattle.std.specs.Prelude.{Option, None, Some}
use Rattle.thes_base.specs.declared.fault.Refusal.{Refusal}
use Rattle.thes_base.specs.RefusalRules.{Check, ◌when◌, ◌unless◌, ◌for_some◌, IsFirstRefusal}

-- For each check that names a number, the condition holds for at most one number.
abbrev pub GiveOneAnswer : List Check → Type 0
GiveOneAnswer [] = Unit {0}
GiveOneAnswer (name when sentence ∷ checks) = GiveOneAnswer checks
GiveOneAnswer (name unless condition ∷ checks) = GiveOneAnswer checks
GiveOneAnswer (name for_some sentence ∷ checks) = ((m n : ℕ) → sentence m → sentence n → m ≡ n) × GiveOneAnswer checks

-- Checks give at most one answer.
pub one_first_refusal : (checks : List Check) → GiveOneAnswer checks → (a b : Option Refusal)
    → IsFirstRefusal checks a → IsFirstRefusal checks b → a ≡ b
one_first_refusal [] one a b x y = x ∙ sym y
one_first_refusal (name when sentence ∷ checks) one a b (inl p) (inl q) = p.1 ∙ sym q.1
one_first_refusal (name when sentence ∷ checks) one a b (inl p) (inr q) = absurd (q.0 p.0)
one_first_refusal (name when sentence ∷ checks) one a b (inr p) (inl q) = absurd (p.0 q.0)
one_first_refusal (name when sentence ∷ checks) one a b (inr p) (inr q) = one_first_refusal checks one a b p.1 q.1
one_first_refusal (name unless condition ∷ checks) one a b (inl p) (inl q) = p.1 ∙ sym q.1
one_first_refusal (name unless condition ∷ checks) one a b (inl p) (inr q) = absurd (p.0 q.0)
one_first_refusal (name unless condition ∷ checks) one a b (inr p) (inl q) = absurd (q.0 p.0)
one_first_refusal (name unless condition ∷ checks) one a b (inr p) (inr q) = one_first_refusal checks one a b p.1 q.1
one_first_refusal (name for_some sentence ∷ checks) one a b (inl p) (inl q) =
    p.2 ∙ ap (λ n. Some (name n)) (one.0 p.0 q.0 p.1 q.1) ∙ sym q.2
one_first_refusal (name for_some sentence ∷ checks) one a b (inl p) (inr q) = absurd (q.0 p.0 p.1)
one_first_refusal (name for_some sentence ∷ checks) one a b (inr p) (inl q) = absurd (p.0 q.0 q.1)
one_first_refusal (name for_some sentence ∷ checks) one a b (inr p) (inr q) = one_first_refusal checks one.1 a b p.1 q.1

-- It isn't the case that checks give no answer.
pub some_first_refusal : (checks : List Check) → ¬ (¬ ((answer : Option Refusal) × IsFirstRefusal checks answer))
some_first_refusal [] none = none (None, refl)
some_first_refusal (name when sentence ∷ checks) none =
    some_first_refusal checks (λ rest. none (rest.0, inr (λ holds. none (Some name, inl (holds, refl)), rest.1)))
some_first_refusal (name unless condition ∷ checks) none =
    none (Some name, inl (λ holds. some_first_refusal checks (λ rest. none (rest.0, inr (holds, rest.1))), refl))
some_first_refusal (name for_some sentence ∷ checks) none =
    some_first_refusal checks
    (λ rest. none (rest.0, inr (λ n holds. none (Some (name n), inl (n, holds, refl)), rest.1)))

-- If a request passes a check that refuses when a condition holds, the condition doesn't hold, and the remaining rule
-- accepts the request.
pub passed_if : {sentence rest : Type 0} {name : Refusal} → (sentence × (None ≡ Some name)) ⊎ ((¬ sentence) × rest)
    → (¬ sentence) × rest
passed_if {sentence} {rest} {name} row = ⊎_elim (λ (p : sentence × (None ≡ Some name)). absurd (cc))
    (λ (p : (¬ sentence) × rest). p) row

pub passed_unless : {condition rest : Type 0} {name : Refusal} → ((¬ condition) × (None ≡ Some name))
    ⊎ (condition × rest) → condition × rest
passed_unless {condition} {rest} {name} row = ⊎_elim (λ (p : (¬ condition) × (None ≡ Some name)). absurd (cc))
    (λ (p : condition × rest). p) row
