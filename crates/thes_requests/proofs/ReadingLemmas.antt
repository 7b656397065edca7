-- Proves how rules combine in sequence, and that their outcome is unique.
use Rattle.std.proofs.lemmas.Grind.{common_steps}
use Rattle.std.proofs.Common.{arith, ◌≡◌, ◌∙◌, refl, sym, ap, inl, inr, Result, Ok, Err}
use Rattle.thes_base.specs.declared.fault.FormFault.{FormFault}
use Rattle.thes_base.specs.declared.fault.ReadStop.{ReadStop}
use Rattle.thes_requests.specs.Readings.{RequestReading, reads, fails, unless, ReadsAs, Gives, ◌>>=◌}

module _ {A B : Type 0} (next : A → RequestReading B) where
  outcome_after_value : (reading : RequestReading A) (x : A) (outcome : Result B FormFault) → ReadsAs reading (Ok x)
      → ReadsAs (next x) outcome → ReadsAs (reading >>= next) outcome
  outcome_after_value (reads y) x outcome h k = grind (arith, common_steps)
  outcome_after_value (fails f) x outcome h k = cc
  outcome_after_value (unless rule f rest) x outcome (inl h) k = let e = h.1 in cc
  outcome_after_value (unless rule f rest) x outcome (inr h) k = inr (h.0, outcome_after_value rest x outcome h.1 k)

  fault_of_first : (reading : RequestReading A) (f : FormFault) → ReadsAs reading (Err f) → ReadsAs (reading >>= next)
      (Err f)
  fault_of_first (reads y) f h = cc
  fault_of_first (fails g) f h = ap (λ v. Err v) (let e : f ≡ g = cc in e)
  fault_of_first (unless rule g rest) f (inl h) = inl (h.0, ap (λ v. Err v) (let e : f ≡ g = let k = h.1 in cc in e))
  fault_of_first (unless rule g rest) f (inr h) = inr (h.0, fault_of_first rest f h.1)

  -- If the first rules give a value, the outcome is that of the next ones.
  pub gives_value : (reading : RequestReading A) (x : A) (result : Result B ReadStop) → Gives reading (Ok x)
      → Gives (next x) result → Gives (reading >>= next) result
  gives_value reading x result h k =
      record {
        value = λ y e. outcome_after_value reading x (Ok y) (h.value x refl) (k.value y e);
        fault =
            λ f e. outcome_after_value reading x (Err f) (h.value x refl) (k.fault f e);
      }

  -- If the first rules give a fault, the outcome is that fault.
  pub gives_fault : (reading : RequestReading A) (e : ReadStop) → Gives reading (Err e) → Gives (reading >>= next)
      (Err e)
  gives_fault reading e h = grind (arith, common_steps, fault_of_first)

-- Rules have at most one outcome.
pub one_outcome : {A : Type 0} (reading : RequestReading A) (x y : Result A FormFault) → ReadsAs reading x
    → ReadsAs reading y → x ≡ y
one_outcome (reads v) x y h k = h ∙ sym k
one_outcome (fails f) x y h k = h ∙ sym k
one_outcome (unless rule f rest) x y (inl h) (inl k) = h.1 ∙ sym k.1
one_outcome (unless rule f rest) x y (inl h) (inr k) = absurd (h.0 k.0)
one_outcome (unless rule f rest) x y (inr h) (inl k) = absurd (k.0 h.0)
one_outcome (unless rule f rest) x y (inr h) (inr k) = one_outcome rest x y h.1 k.1

-- Rules have an outcome, stated as a double negation.
pub some_outcome : {A : Type 0} (reading : RequestReading A) → ¬ ¬ ((x : Result A FormFault) × ReadsAs reading x)
some_outcome (reads v) none = none (Ok v, refl)
some_outcome (fails f) none = none (Err f, refl)
some_outcome (unless rule f rest) none =
    none (Err f, inl (λ holds. some_outcome rest (λ p. none (p.0, inr (holds, p.1))), refl))
