-- The numbers of a list can be replaced one after another.
use Rattle.std.proofs.Common.{◌≡◌, ◌++◌, ◌∷◌, [], ◌<◌, ◌≤◌, ◌+◌, ◌∙◌, ℕ, zero, suc, List, refl, sym, ap, take, length}
use Rattle.std.proofs.Common.{arith, add-one, get_or}
use Rattle.std.proofs.lemmas.List.{take_all}
use Rattle.std.specs.Prelude.{Option}
use Rattle.thes_base.specs.declared.request.Answer.{Answer}
use Rattle.thes_plans.specs.Resolving.{reference_of, resolved_number, resolved_numbers}

none_left : (answers : List Answer) (references : List (Option ℕ)) → resolved_numbers answers references [] ≡ []
none_left answers [] = refl
none_left answers (r ∷ references) = refl

one_more : (answers : List Answer) (references : List (Option ℕ)) (owns : List ℕ) (n own : ℕ) → n < length owns
    → own ≡ get_or owns n own
    → resolved_numbers answers references (take n owns) ++ resolved_number answers (reference_of references n) own ∷ []
    ≡ resolved_numbers answers references (take (suc n) owns)
one_more answers references [] n own within is = absurd (omega arith)
one_more answers [] (x ∷ owns) zero own within is = ap (λ (y : ℕ). y ∷ []) is
one_more answers (r ∷ references) (x ∷ owns) zero own within is =
    ap (λ (y : ℕ). resolved_number answers r y ∷ []) is
    ∙ ap (λ (ys : List ℕ). resolved_number answers r x ∷ ys) (sym (none_left answers references))
one_more answers [] (x ∷ owns) (suc n) own within is =
    ap (λ (ys : List ℕ). x ∷ ys) (own_front answers (take n owns) own ∙ one_more answers [] owns n own (omega arith) is
    ∙ own_all answers (take (suc n) owns))
  where
    own_all : (answers : List Answer) (ys : List ℕ) → resolved_numbers answers [] ys ≡ ys
    own_all answers [] = refl
    own_all answers (y ∷ ys) = refl

    own_front : (answers : List Answer) (ys : List ℕ) (y : ℕ) → ys ++ y ∷ []
        ≡ resolved_numbers answers [] ys ++ resolved_number answers (reference_of [] n) y ∷ []
    own_front answers [] y = refl
    own_front answers (z ∷ ys) y = refl
one_more answers (r ∷ references) (x ∷ owns) (suc n) own within is =
    ap (λ (ys : List ℕ). resolved_number answers r x ∷ ys) (one_more answers references owns n own (omega arith) is)

-- Appending the replacement of the number at index n to those of the first n numbers gives those of the first n + 1.
pub replaced_more : (answers : List Answer) (references : List (Option ℕ)) (owns : List ℕ) (n own : ℕ)
    → n < length owns → own ≡ get_or owns n own
    → resolved_numbers answers references (take n owns) ++ resolved_number answers (reference_of references n) own ∷ []
    ≡ resolved_numbers answers references (take (n + 1) owns)
replaced_more answers references owns n own within is = one_more answers references owns n own within is
    ∙ ap (λ (k : ℕ). resolved_numbers answers references (take k owns)) (sym (add-one n))

-- If a list has at most n numbers, replacing the first n replaces all.
pub replaced_all : (answers : List Answer) (references : List (Option ℕ)) (owns : List ℕ) (n : ℕ) → length owns ≤ n
    → resolved_numbers answers references (take n owns) ≡ resolved_numbers answers references owns
replaced_all answers references owns n past = ap (resolved_numbers answers references) (take_all n owns past)
