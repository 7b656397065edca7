-- Faults of the storage, and the count of its failures.
use Rattle.std.specs.Prelude.{◌≡◌, ◌⊎◌, ◌<◌, ℕ, Result, Ok, Err}
use Rattle.thes_base.specs.declared.fault.Fault.{Fault}
use Rattle.thes_base.specs.declared.fault.Fault.TheVariants as faults

-- The greatest count of failures, 2^64 - 1.
abbrev pub max_failures : ℕ
max_failures = 18446744073709551615

-- The fault agrees with the count of failures: it is OutOfMemory and the count is unchanged, or it is Store and the
-- count has grown, unless it had its greatest value.
abbrev pub IsCounted : ℕ → ℕ → Fault → Type 0
IsCounted before now fault =
    ((fault ≡ faults.OutOfMemory) × (now ≡ before))
    ⊎ ((fault ≡ faults.Store) × ((before < now) ⊎ ((before ≡ max_failures) × (now ≡ before))))

-- The result agrees with the count of failures: after success the count is unchanged, and after a fault it is as
-- IsCounted states.
abbrev pub HasCause : {T : Type 0} → ℕ → ℕ → Result T Fault → Type 0
HasCause before now (Ok x) = now ≡ before
HasCause before now (Err fault) = IsCounted before now fault
