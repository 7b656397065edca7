use Rattle.std.proofs.lemmas.Grind.{common_steps}
use Rattle.std.proofs.Common.{arith, ◌∙◌, sym, ap, ◌∷◌}
use Rattle.form_urlencoded.specs.Form.{raw_pairs}
use Rattle.thes_http_request.proofs.QueryLemmas.{display_query_with, display_query_of_two}
use Rattle.thes_http_request.proofs.query.read_query.Goals as goal

pub returns-in_default : goal.returns-in_default
returns-in_default c = grind (arith, common_steps, display_query_with)

pub returns-in_default-next : goal.returns-in_default-next
returns-in_default-next c = grind (arith, common_steps, display_query_with)

pub returns-in_default-next-2 : goal.returns-in_default-next-2
returns-in_default-next-2 c = grind (arith, common_steps, display_query_with)

pub returns : goal.returns
returns c =
    let first = c.in-Some.ensures.steps.0 in
    let second = c.in-Some-next.ensures.steps.0 in
    let k = rw c.in_ok-first.was at first.3 in
    let l = rw c.in_ok-second.was at second.3 in
    let all = ap raw_pairs (sym c.as_bytes.ensures.value)
    ∙ (sym c.parse-pairs.ensures.value
    ∙ (first.2 ∙ ap (λ t. (first.0, first.1) ∷ t)
    (second.2 ∙ ap (λ t. (second.0, second.1) ∷ t) c.in-None.ensures.steps.0))) in
    rw (display_query_of_two _ _ _ _ _ _ _ _ _ all k.0 k.1 l.0 l.1) c.display_query_in.ensures
