-- A list of length six is the list of its six elements.
use Rattle.std.proofs.Common.{◌≡◌, ◌<◌, ◌≤◌, length, List, [], ◌∷◌, refl, arith}
use lib.ListN.{get_or}

pub six : {A : Type 0} (xs : List A) → 6 ≤ length xs → length xs < 7 → (a b c d e f : A) → xs ≡ get_or xs 0 a
    ∷ get_or xs 1 b ∷ get_or xs 2 c ∷ get_or xs 3 d ∷ get_or xs 4 e ∷ get_or xs 5 f ∷ []
six [] l u a b c d e f = absurd (omega arith)
six (x ∷ []) l u a b c d e f = absurd (omega arith)
six (x ∷ y ∷ []) l u a b c d e f = absurd (omega arith)
six (x ∷ y ∷ z ∷ []) l u a b c d e f = absurd (omega arith)
six (x ∷ y ∷ z ∷ v ∷ []) l u a b c d e f = absurd (omega arith)
six (x ∷ y ∷ z ∷ v ∷ w ∷ []) l u a b c d e f = absurd (omega arith)
six (x ∷ y ∷ z ∷ v ∷ w ∷ t ∷ []) l u a b c d e f = refl
six (x ∷ y ∷ z ∷ v ∷ w ∷ t ∷ s ∷ xs) l u a b c d e f = absurd (omega arith)
