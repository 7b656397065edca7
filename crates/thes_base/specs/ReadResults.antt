-- The results of reading texts and numbers.
use Rattle.thes_base.specs.Forms.{IsNumber, IsNumeral}
use Rattle.thes_base.specs.Types.{Bytes, Number}
use Rattle.std.specs.Prelude.{◌≡◌, Result, Ok, Err}
use Rattle.thes_base.specs.declared.fault.FormFault.{FormFault}
use Rattle.thes_base.specs.declared.fault.FormFault.TheVariants.{BadNumber}
use Rattle.thes_base.specs.declared.fault.ReadStop.{ReadStop}
use Rattle.thes_base.specs.declared.fault.ReadStop.TheVariants.{Form, OutOfMemory}

-- The result of reading a text: a value with the property if the text meets the rule, or the fault if it doesn't.
-- Memory may run out either way.
abbrev pub IsReadResult : {T : Type 0} → Type 0 → FormFault → (T → Type 0) → Result T ReadStop → Type 0
IsReadResult rule fault is (Ok x) = rule × is x
IsReadResult rule fault is (Err (Form f)) = (f ≡ fault) × ¬ rule
IsReadResult rule fault is (Err OutOfMemory) = Unit {0}

-- The result of reading a number: the number that the text spells in decimal digits, or BadNumber if it spells none
-- from 1 to 2³² - 1.
abbrev pub IsNumberReadResult : Bytes → Result Number FormFault → Type 0
IsNumberReadResult text (Ok n) = IsNumber n × IsNumeral text n
IsNumberReadResult text (Err f) = (f ≡ BadNumber) × ((n : Number) → IsNumber n → IsNumeral text n → ⊥)
