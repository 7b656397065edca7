-- Proves how the fields of a record are read.
use Rattle.std.proofs.lemmas.Grind.{common_steps}
use Rattle.std.proofs.Common.{◌≡◌, ◌∙◌, sym, ap, ℕ, ◌<◌, List, [], ◌∷◌, length, get_or, Option, None, Some}
use Rattle.std.proofs.Common.{arith, rules}
use Rattle.std.specs.Prelude.{slice_get, IsSome, option_map}
use Rattle.std.proofs.lemmas.Option.{slice_get-get_or}
use Rattle.csv.specs.Records.{field_at}

pub field_there : (fs : List (List ℕ)) (i : ℕ) → field_at fs i ≡ slice_get fs i
unfolding field_at
field_there fs i = grind (arith, common_steps)

pub field_is_some : {X : Type 0} (o : Option X) (f : X → List ℕ) (fs : List (List ℕ)) (i : ℕ) → option_map f o
    ≡ field_at fs i → i < length fs → IsSome o
field_is_some None f fs i e below = absurd (let bad : None ≡ Some (get_or fs i []) = e ∙ field_there fs i
    ∙ slice_get-get_or fs i [] below in cc)
field_is_some (Some x) f fs i e below = search rules

pub field_value : {X : Type 0} (o : Option X) (f : X → List ℕ) (fs : List (List ℕ)) (i : ℕ) (x : X) → option_map f o
    ≡ field_at fs i → o ≡ Some x → slice_get fs i ≡ Some (f x)
field_value o f fs i x e is = sym (field_there fs i) ∙ sym e ∙ ap (option_map f) is

pub three_fields : (fs : List (List ℕ)) (a b c : List ℕ) → length fs ≡ 3 → slice_get fs 0 ≡ Some a → slice_get fs 1
    ≡ Some b → slice_get fs 2 ≡ Some c → fs ≡ a ∷ b ∷ c ∷ []
three_fields [] a b c n e f g = absurd (omega arith)
three_fields (x ∷ []) a b c n e f g = absurd (omega arith)
three_fields (x ∷ y ∷ []) a b c n e f g = absurd (omega arith)
three_fields (x ∷ y ∷ z ∷ []) a b c n e f g = cc
three_fields (x ∷ y ∷ z ∷ w ∷ fs) a b c n e f g = absurd (omega arith)

pub third_of : (fs : List (List ℕ)) (a b c d : List ℕ) → slice_get fs 2 ≡ Some d → fs ≡ a ∷ b ∷ c ∷ [] → d ≡ c
third_of fs a b c d at e = let q : Some d ≡ Some c = sym at ∙ ap (λ (gs : List (List ℕ)). slice_get gs 2) e in cc
