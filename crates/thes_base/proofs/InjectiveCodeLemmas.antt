-- A code from which the value can be found again is injective.
use Rattle.std.proofs.Common.{◌≡◌, ◌∙◌, ap, sym}
use Rattle.std.specs.Prelude.{Option, Some}
use Rattle.std.proofs.lemmas.Option.{same_Some}

pub one_to_one : {A C : Type 0} (code : A → C) (back : C → Option A) → ((x : A) → back (code x) ≡ Some x) → (x y : A)
    → code x ≡ code y → x ≡ y
one_to_one code back found x y same = same_Some x y (sym (found x) ∙ ap back same ∙ found y)
