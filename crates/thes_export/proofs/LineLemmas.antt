-- Proves that the parts of a line, appended one by one, are the line.
use Rattle.std.proofs.lemmas.Grind.{common_steps}
use Rattle.std.proofs.Common.{◌≡◌, ℕ, List, [], ◌∷◌, ◌++◌, append_assoc, arith}
use Rattle.std.specs.Prelude.{codes}
use Rattle.thes_base.specs.Triples.{Triple}
use Rattle.thes_export.specs.Spelling.{iri_spelling, object_text, line_start, line_of, property_iri}

put_together : (s p o : List ℕ) → (line_start s p ++ o) ++ codes " .\n" ≡ iri_spelling s
    ++ (32 ∷ (iri_spelling p ++ (32 ∷ (o ++ (32 ∷ 46 ∷ 10 ∷ [])))))
put_together s p o = simp append_assoc

-- The beginning of a line, the object and the end of the line are together the line of the triple.
pub made_line : (t : Triple) (front text line : List ℕ) → front ≡ line_start t.subject (property_iri t.property)
    → text ≡ front ++ object_text t.object → line ≡ text ++ codes " .\n" → line ≡ line_of t
unfolding line_of
made_line t front text line begun told at_line_end = grind (arith, common_steps, put_together)
