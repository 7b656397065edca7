-- The reading of a text: rules checked in order, each with its form fault, and then a value; the
-- first rule that fails determines the fault.
use Rattle.std.specs.Prelude.{◌≡◌, ◌⊎◌, Option, None, Some, Result, Ok, Err}
use Rattle.thes_base.specs.declared.fault.FormFault.{FormFault}
use Rattle.thes_base.specs.declared.fault.FormFault.TheVariants.{BadShape}
use Rattle.thes_base.specs.declared.fault.ReadStop.{ReadStop}
use Rattle.thes_base.specs.declared.fault.ReadStop.TheVariants.{Form}

-- A list of rules to check in order, which ends in a value or a form fault.
pub data RequestReading (A : Type 0) : Type 1 where
  reads : A → RequestReading A
  fails : FormFault → RequestReading A
  -- The form fault if the rule fails, or else the outcome of the reading that follows.
  unless : (rule : Type 0) → FormFault → RequestReading A → RequestReading A

-- The reading has this outcome: the value, or the fault of the first rule that fails.
abbrev pub ReadsAs : {A : Type 0} → RequestReading A → Result A FormFault → Type 0
ReadsAs (reads x) outcome = outcome ≡ Ok x
ReadsAs (fails f) outcome = outcome ≡ Err f
ReadsAs (unless rule f rest) outcome =
    ((¬ rule) × (outcome ≡ Err f)) ⊎ (rule × ReadsAs rest outcome)

-- The result of a call is the outcome of the reading, or `OutOfMemory`.
pub record Gives {A : Type 0} (reading : RequestReading A) (result : Result A ReadStop) : Type 0 where
  pub value : (x : A) → result ≡ Ok x → ReadsAs reading (Ok x)
  pub fault : (f : FormFault) → result ≡ Err (Form f) → ReadsAs reading (Err f)

-- Two readings in sequence: the rules of `reading`, and then those that `next` has for the value of `reading`.
infixl 10 ◌>>=◌
abbrev pub ◌>>=◌ : {A B : Type 0} → RequestReading A → (A → RequestReading B) → RequestReading B
(reads x) >>= next = next x
(fails f) >>= next = fails f
(unless rule f rest) >>= next = unless rule f (rest >>= next)

-- The value, or `BadShape` if there is none.
abbrev pub present_or_bad_shape : {A : Type 0} → Option A → RequestReading A
present_or_bad_shape None = fails BadShape
present_or_bad_shape (Some x) = reads x

-- The value if the rule holds, else the fault.
abbrev pub value_if : {A : Type 0} → Type 0 → FormFault → A → RequestReading A
value_if rule f x = unless rule f (reads x)
