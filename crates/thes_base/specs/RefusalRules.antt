-- The rules by which requests are refused: checks in order, each with a refusal. The first check that fails gives the
-- refusal; if none fails, the request is accepted. A rule is a relation: it holds of the answers that may be given.
use Rattle.std.specs.Prelude.{◌≡◌, ◌⊎◌, List, [], ◌∷◌, Option, None, Some}
use Rattle.thes_base.specs.Types.{Number}
use Rattle.thes_base.specs.declared.fault.Refusal.{Refusal}

-- A rule for refusals: it holds of the answers that may be given, a refusal or none.
abbrev pub RefusalRule : Type 1
RefusalRule = Option Refusal → Type 0

-- Refuses with the refusal `name` if the condition holds, or else decides by the remaining rule.
abbrev pub refused_if : Type 0 → Refusal → RefusalRule → RefusalRule
refused_if condition name rest answer =
    (condition × (answer ≡ Some name)) ⊎ ((¬ condition) × rest answer)

-- Refuses with the refusal `name` if the condition doesn't hold, or else decides by the remaining rule.
abbrev pub refused_unless : Type 0 → Refusal → RefusalRule → RefusalRule
refused_unless condition name rest answer =
    ((¬ condition) × (answer ≡ Some name)) ⊎ (condition × rest answer)

-- Refuses with the refusal that names a number for which the condition holds; if there is no such number, decides by
-- the remaining rule.
abbrev pub refused_for : (Number → Type 0) → (Number → Refusal) → RefusalRule → RefusalRule
refused_for condition name rest answer =
    ((n : Number) × condition n × (answer ≡ Some (name n)))
    ⊎ (((n : Number) → ¬ condition n) × rest answer)

-- Refuses nothing: the request is accepted.
abbrev pub accepted : RefusalRule
accepted answer = answer ≡ None

-- Refuses with the refusal found so far; if there is none, decides by the remaining rule.
abbrev pub refusal_or_rest : Option Refusal → RefusalRule → RefusalRule
refusal_or_rest (Some name) rest answer = answer ≡ Some name
refusal_or_rest None rest answer = rest answer

-- A check of a request: a refusal with a condition.
infix 70 ◌when◌ ◌unless◌ ◌for_some◌
pub data Check : Type 1 where
  -- Refuses when the condition holds.
  ◌when◌ : Refusal → Type 0 → Check
  -- Refuses unless the condition holds.
  ◌unless◌ : Refusal → Type 0 → Check
  -- Refuses when the condition holds for some number, which the refusal names.
  ◌for_some◌ : (Number → Refusal) → (Number → Type 0) → Check

-- The answer is the refusal of the first check that fails, or none if all pass.
abbrev pub IsFirstRefusal : List Check → RefusalRule
IsFirstRefusal [] answer = accepted answer
IsFirstRefusal (name when condition ∷ checks) answer = refused_if condition name (IsFirstRefusal checks) answer
IsFirstRefusal (name unless condition ∷ checks) answer = refused_unless condition name (IsFirstRefusal checks) answer
IsFirstRefusal (name for_some condition ∷ checks) answer = refused_for condition name (IsFirstRefusal checks) answer
