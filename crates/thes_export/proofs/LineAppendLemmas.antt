-- Proves which lines a list has after each step that appends lines.
use Rattle.std.proofs.lemmas.Grind.{common_steps}
use Rattle.std.proofs.Common.{◌≡◌, ◌⊎◌, ◌∙◌, sym, ap, subst, inl, inr, ⊎_elim, ℕ, List, [], ◌∷◌, ◌++◌, Contains, ◌+◌}
use Rattle.std.proofs.Common.{◌<◌, ◌≤◌, length, get_or, take, take_all, arith}
use Rattle.std.proofs.lemmas.List.{take_more}
use Rattle.std.proofs.lemmas.List.Elements.{Contains-append_left, Contains-append_right, Contains-append_cases}
use Rattle.thes_base.specs.Triples.{Triple}
use Rattle.thes_base.proofs.ListMemberLemmas.{Contains-none, Contains-head, Contains-cons_cases}
use Rattle.thes_export.specs.Spelling.{line_of}
use Rattle.thes_export.specs.Topics.{Adds, IsLineOf}

-- A step for a property that no line has appends no line.
pub added_none : (Is : List ℕ → Type 0) (xs : List (List ℕ)) → ((l : List ℕ) → Is l → ⊥) → Adds Is xs xs
added_none Is xs none = record { each = λ l. (inl, ⊎_elim (λ c. c) (λ is. absurd (none l is))) }

-- A step that appends the lines of a property also appends those of an equivalent one.
pub added_same : (Is Other : List ℕ → Type 0) (old new : List (List ℕ)) → ((l : List ℕ) → Is l → Other l)
    → ((l : List ℕ) → Other l → Is l) → Adds Is old new → Adds Other old new
added_same Is Other old new to from adds = record {
  each = λ l. (
    λ c. ⊎_elim inl (λ is. inr (to l is)) ((adds.each l).0 c),
    ⊎_elim (λ c. (adds.each l).1 (inl c)) (λ other. (adds.each l).1 (inr (from l other))),
  );
}

-- Two steps together append the lines of both their properties.
pub added_then : (Is More All : List ℕ → Type 0) (old mid new : List (List ℕ))
    → ((l : List ℕ) → All l → Is l ⊎ More l) → ((l : List ℕ) → Is l → All l) → ((l : List ℕ) → More l → All l)
    → Adds Is old mid → Adds More mid new → Adds All old new
added_then Is More All old mid new cases first second a b = record {
  each = λ l. (
    λ c. ⊎_elim (λ d. ⊎_elim inl (λ is. inr (first l is)) ((a.each l).0 d)) (λ more. inr (second l more))
        ((b.each l).0 c),
    ⊎_elim
        (λ c. (b.each l).1 (inl ((a.each l).1 (inl c))))
        (λ all. ⊎_elim (λ is. (b.each l).1 (inl ((a.each l).1 (inr is)))) (λ more. (b.each l).1 (inr more))
        (cases l all)),
  );
}

-- Equivalent properties of triples have the same lines.
pub same_lines : (Is Other : Triple → Type 0) (old new : List (List ℕ)) → ((t : Triple) → Is t → Other t)
    → ((t : Triple) → Other t → Is t) → Adds (IsLineOf Is) old new → Adds (IsLineOf Other) old new
same_lines Is Other old new to from = added_same (IsLineOf Is) (IsLineOf Other) old new
    (λ l w. (w.0, to w.0 w.1, w.2)) (λ l w. (w.0, from w.0 w.1, w.2))

-- A step for a property that no triple has appends no line.
pub no_lines : (Is : Triple → Type 0) (xs : List (List ℕ)) → ((t : Triple) → Is t → ⊥) → Adds (IsLineOf Is) xs xs
no_lines Is xs none = added_none (IsLineOf Is) xs (λ l w. none w.0 w.1)

-- A step for a single triple appends its line.
pub one_triple : (Is : Triple → Type 0) (u : Triple) (line : List ℕ) (old new : List (List ℕ)) → line ≡ line_of u
    → Is u → ((t : Triple) → Is t → t ≡ u) → Adds (λ l. l ≡ line) old new → Adds (IsLineOf Is) old new
one_triple Is u line old new spelling is unique = added_same (λ l. l ≡ line) (IsLineOf Is) old new
    (λ l e. (u, is, e ∙ spelling)) (λ l w. w.2 ∙ ap line_of (unique w.0 w.1) ∙ sym spelling)

-- A loop over a list appends the lines of each element.
module _ {A : Type 0} (Is : A → Triple → Type 0) where
  abbrev pub OfSome : List A → Triple → Type 0
  OfSome xs t = (x : A) × Contains xs x × Is x t

  pub added_each : (xs : List A) (x : A) (old mid new : List (List ℕ)) → Adds (IsLineOf (OfSome xs)) old mid
      → Adds (IsLineOf (Is x)) mid new → Adds (IsLineOf (OfSome (xs ++ x ∷ []))) old new
  added_each xs x old mid new =
      added_then (IsLineOf (OfSome xs)) (IsLineOf (Is x)) (IsLineOf (OfSome (xs ++ x ∷ []))) old mid new
      (λ l w. let of = w.1 in ⊎_elim (λ c. inl (w.0, (of.0, c, of.2), w.2))
      (λ c. inr (
        w.0,
        ⊎_elim (λ e. subst (λ y. Is y w.0) (sym e) of.2) (λ none. absurd (Contains-none of.0 none))
            (Contains-cons_cases x [] of.0 c),
        w.2,
      )) (Contains-append_cases xs (x ∷ []) of.0 of.1))
      (λ l w. let of = w.1 in (w.0, (of.0, Contains-append_left xs (x ∷ []) of.0 of.1, of.2), w.2))
      (λ l w. (w.0, (x, Contains-append_right xs (x ∷ []) x (Contains-head x []), w.1), w.2))

  pub added_no_element : (xs : List (List ℕ)) → Adds (IsLineOf (OfSome [])) xs xs
  added_no_element xs = no_lines (OfSome []) xs (λ t w. Contains-none w.0 w.1)

  -- One more pass of the loop appends the lines of one more element.
  pub added_next : (xs : List A) (i : ℕ) (x : A) (old mid new : List (List ℕ)) → i < length xs → x ≡ get_or xs i x
      → Adds (IsLineOf (OfSome (take i xs))) old mid → Adds (IsLineOf (Is x)) mid new
      → Adds (IsLineOf (OfSome (take (i + 1) xs))) old new
  added_next xs i x old mid new below at inv one = grind (arith, common_steps, added_each, take_more)

  -- At its end the loop has appended the lines of all elements.
  pub all_taken : (xs : List A) (i : ℕ) (old new : List (List ℕ)) → length xs ≤ i
      → Adds (IsLineOf (OfSome (take i xs))) old new → Adds (IsLineOf (OfSome xs)) old new
  all_taken xs i old new all added = subst (λ (ys : List A). Adds (IsLineOf (OfSome ys)) old new) (take_all i xs all)
      added
