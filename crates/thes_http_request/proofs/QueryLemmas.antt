-- Proves the values in a query string of two pairs, decoded one by one.
use Rattle.std.proofs.lemmas.Grind.{common_steps}
use Rattle.std.proofs.Common.{arith, ◌≡◌, refl, ℕ, List, [], ◌∷◌, map}
use Rattle.form_urlencoded.specs.Form.{raw_pairs, DecodesTo}
use Rattle.thes_http_request.specs.Queries.{display_query_of, display_query_in_pairs, decoded_pair}

pub display_query_with : (query : List ℕ) (ps : List (List ℕ × List ℕ)) → raw_pairs query ≡ ps
    → display_query_of query ≡ display_query_in_pairs (map decoded_pair ps)
unfolding display_query_of
display_query_with query ps e = rw e refl

-- The values in a query string of two pairs are those of the pairs, decoded.
pub display_query_of_two : (query x x' y y' a a' b b' : List ℕ) → raw_pairs query ≡ (x, x') ∷ (y, y') ∷ []
    → DecodesTo x a → DecodesTo x' a' → DecodesTo y b → DecodesTo y' b'
    → display_query_of query ≡ display_query_in_pairs ((a, a') ∷ (b, b') ∷ [])
display_query_of_two query x x' y y' a a' b b' e k k' l l' = grind (arith, common_steps, display_query_with)
