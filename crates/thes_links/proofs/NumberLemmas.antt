-- Tests of numbers for equality are exact.
use Rattle.std.proofs.Common.{◌≡◌, ◌≢◌, ℕ, Bool, true, false, not, nat_eq, sym, ◌∙◌}
use Rattle.std.proofs.lemmas.Bool.{not-true, not-false, true≢false}
use Rattle.std.proofs.lemmas.Bool.Decides.{Decides-eqb}

pub same_of : (a b : ℕ) → nat_eq a b ≡ true → a ≡ b
same_of a b e = (Decides-eqb a b).0 e

pub other_of : (a b : ℕ) → nat_eq a b ≡ false → a ≢ b
other_of a b e same = true≢false (sym ((Decides-eqb a b).1 same) ∙ e)

-- If a test for equality returns true, the numbers are equal.
pub eq_same : (r : Bool) (a b : ℕ) → r ≡ nat_eq a b → r ≡ true → a ≡ b
eq_same r a b is e = same_of a b (sym is ∙ e)

pub eq_other : (r : Bool) (a b : ℕ) → r ≡ nat_eq a b → r ≡ false → a ≢ b
eq_other r a b is e = other_of a b (sym is ∙ e)

pub ne_other : (r : Bool) (a b : ℕ) → r ≡ not (nat_eq a b) → r ≡ true → a ≢ b
ne_other r a b is e = other_of a b (not-true (nat_eq a b) (sym is ∙ e))

pub ne_same : (r : Bool) (a b : ℕ) → r ≡ not (nat_eq a b) → r ≡ false → a ≡ b
ne_same r a b is e = same_of a b (not-false (nat_eq a b) (sym is ∙ e))
