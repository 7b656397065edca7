-- Facts about optional and Boolean results.
use Rattle.std.proofs.Common.{◌≡◌, refl, Bool, true, false, Bor}
use Rattle.std.specs.Bool.{MatchBool}
use Rattle.std.specs.Prelude.{Option, None, Some, Result, Ok, Err}
use Rattle.std.specs.Option.{MatchOption, option_copied}
use Rattle.std.specs.Result.{OnErr}

pub match_weaker : {A : Type 0} (P Q : Type 0) (R S : A → Type 0) (o : Option A) → (P → Q) → ((x : A) → R x → S x)
    → MatchOption o P R → MatchOption o Q S
match_weaker P Q R S None f g h = f h
match_weaker P Q R S (Some x) f g h = g x h

pub on_any_err : {T E : Type 0} (P : Type 0) (r : Result T E) → P → OnErr r P
on_any_err P (Ok x) h = tt
on_any_err P (Err e) h = h

-- A property of the copy of an optional result also holds of the borrowed value.
pub match_of_copied : {A : Type 0} (P : Type 0) (Q : A → Type 0) (o : Option (Bor A)) → MatchOption (option_copied o)
    P Q → MatchOption o P (λ b. Q b.now)
match_of_copied P Q None h = h
match_of_copied P Q (Some b) h = h

pub match_copied : {A : Type 0} (P : Type 0) (Q : A → Type 0) (o : Option (Bor A)) → MatchOption o P (λ b. Q b.now)
    → MatchOption (option_copied o) P Q
match_copied P Q None h = h
match_copied P Q (Some b) h = h

-- A Boolean result meets its contract if each of its two values does.
pub match_bool_cases : (b : Bool) (Bad Good : Type 0) → (b ≡ true → Bad) → (b ≡ false → Good) → MatchBool b Bad Good
match_bool_cases true Bad Good f g = f refl
match_bool_cases false Bad Good f g = g refl
