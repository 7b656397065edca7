-- The terms that displays show for concepts.
use Rattle.std.specs.Prelude.{ℕ, List, [], ◌∷◌, ◌++◌, decimal, unwrap_or}
use Rattle.thes_base.specs.Labels.{Labels, preferred_label_in}

-- The number of a concept, in decimal and in square brackets.
abbrev pub number_in_brackets : ℕ → List ℕ
number_in_brackets n = 91 ∷ (decimal n ++ 93 ∷ [])

-- The term of a concept: its preferred label in the language, or its number in brackets if it has none.
abbrev pub term_text : Labels → List ℕ → ℕ → List ℕ
term_text labels tag n = unwrap_or (preferred_label_in labels n tag) (number_in_brackets n)
