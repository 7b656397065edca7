-- Texts to which other texts are appended.
use Rattle.std.specs.Prelude.{◌≡◌, ◌++◌, ℕ, List}

-- The new text is the old one, with a text that has the property `IsOne` appended.
pub record AppendsText (IsOne : List ℕ → Type 0) (old new : List ℕ) : Type 0 where
  pub addition : List ℕ
  pub one : IsOne addition
  pub is : new ≡ old ++ addition
