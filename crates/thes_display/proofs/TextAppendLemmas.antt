-- Proves that the texts of a list's elements are appended one by one.
use Rattle.std.proofs.lemmas.Grind.{common_steps}
use Rattle.std.proofs.Common.{◌≡◌, ◌∙◌, refl, sym, ap, subst, ℕ, List, [], ◌∷◌, ◌++◌, append-nil, append_assoc, arith}
use Rattle.thes_display.specs.TextAppends.{AppendsText}
use Rattle.thes_display.specs.Alphabetical.{AreTexts}

module _ {A : Type 0} (IsOf : A → List ℕ → Type 0) where
  pub texts_more : (xs : List A) (x : A) (text more : List ℕ) → AreTexts IsOf xs text → IsOf x more
      → AreTexts IsOf (xs ++ x ∷ []) (text ++ more)
  texts_more [] x text more e one = (more, one, ([], refl, ap (λ t. t ++ more) e ∙ sym (append-nil more)))
  texts_more (y ∷ xs) x text more (first, rank_is, (rest, are, is)) one = grind
      (arith, common_steps, append_assoc, texts_more xs x rest more are one)

  -- One more element appends its text.
  pub added_more : (xs : List A) (x : A) (old text new : List ℕ) → AppendsText (AreTexts IsOf xs) old text
      → AppendsText (IsOf x) text new → AppendsText (AreTexts IsOf (xs ++ x ∷ [])) old new
  added_more xs x old text new a b = grind (arith, common_steps, append_assoc, texts_more)

  -- One more element extends the texts of a list, if the text was empty at first.
  pub texts_more_at : (xs more : List A) (x : A) (text new : List ℕ) → AreTexts IsOf xs text
      → AppendsText (IsOf x) text new → more ≡ xs ++ x ∷ [] → AreTexts IsOf more new
  texts_more_at xs more x text new a b e = subst (λ ys. AreTexts IsOf ys new) (sym e)
      (subst (AreTexts IsOf (xs ++ x ∷ [])) (sym b.is) (texts_more xs x text b.addition a b.one))
