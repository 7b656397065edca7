-- Proves that serving either succeeds, with as many connections as were asked for, or ends with a fault.
use Rattle.std.proofs.Common.{◌⊎◌, inl, inr, Result, Ok, Err}
use Rattle.std.specs.Prelude.{IfErr, IfOk}

pub done_or_not : {X : Type 0} (result : Result Unit X) (A C : Type 0) (B : X → Type 0) → IfOk result (λ n. C)
    → IfOk result (λ n. A) → IfErr result B → (C × A) ⊎ ((e : X) × B e)
done_or_not (Ok n) A C B all h k = inl (all, h)
done_or_not (Err e) A C B all h k = inr (e, k)
