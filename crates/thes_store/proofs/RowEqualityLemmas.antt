-- Tests of rows for equality return true exactly when the rows are equal.
use Rattle.std.proofs.Common.{◌≡◌, refl, Bool, true, false, IsTrue}

pub true_of : (b : Bool) → IsTrue b → b ≡ true
true_of true h = refl
true_of false h = absurd (cc)

pub is_true_of : (b : Bool) → b ≡ true → IsTrue b
is_true_of b e = e
