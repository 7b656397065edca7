use Rattle.std.proofs.lemmas.Grind.{common_steps}
use Rattle.std.proofs.Common.{arith, rules, ◌≡◌, ◌∙◌, sym, ap, Err, Some, true, false}
use Rattle.std.specs.Str.{bytes_eq}
use Rattle.thes_http_request.specs.Endpoints.{EndpointMatch, endpoint_at, path_of, method_of}
use Rattle.thes_http_request.proofs.EndpointRequestLemmas.{refuses_coding, refuses_path, refuses_method, refuses_length}
use Rattle.thes_http_request.proofs.EndpointRequestLemmas.{accepts_request}
use Rattle.thes_http_request.proofs.endpoint_request.request_of_parts.Goals as goal

pub returns-then-has_field-clause-err : goal.returns-then-has_field-clause-err
returns-then-has_field-clause-err c = grind (arith, common_steps, refuses_coding)

pub returns-in_default-clause-err : goal.returns-in_default-clause-err
returns-in_default-clause-err c = grind (arith, common_steps, refuses_path)

pub returns-then-not-has_method-clause-err : goal.returns-then-not-has_method-clause-err
returns-then-not-has_method-clause-err c = λ p h.
    let at : EndpointMatch = record { endpoint = c.in-Some.found.endpoint; number = c.in-Some.found.number.now } in
    let found : endpoint_at c.args.paths.takes_plans (path_of c.args.target.now) ≡ Some at =
    rw (← c.split_target.ensures.path) (search rules) in
    let other : bytes_eq c.args.method.now (method_of at.endpoint) ≡ false = search rules in
    refuses_method _ _ at (sym c.has_field.ensures ∙ c.if-has_field.false) found other ∙ ap (λ q. Err q) (search rules)

pub returns-in-Ok-clause-ok : goal.returns-in-Ok-clause-ok
returns-in-Ok-clause-ok c =
    let at : EndpointMatch = record { endpoint = c.in-Some.found.endpoint; number = c.in-Some.found.number.now } in
    let found : endpoint_at c.args.paths.takes_plans (path_of c.args.target.now) ≡ Some at =
    rw (← c.split_target.ensures.path) (search rules) in
    let same : bytes_eq c.args.method.now (method_of at.endpoint) ≡ true = search rules in
    rw c.split_target.ensures.query
    (accepts_request _ _ at c.in-Ok.body (sym c.has_field.ensures ∙ c.if-has_field.false) found same (search rules))

pub returns-in-Err-clause-err : goal.returns-in-Err-clause-err
returns-in-Err-clause-err c = λ p h.
    let at : EndpointMatch = record { endpoint = c.in-Some.found.endpoint; number = c.in-Some.found.number.now } in
    let found : endpoint_at c.args.paths.takes_plans (path_of c.args.target.now) ≡ Some at =
    rw (← c.split_target.ensures.path) (search rules) in
    let same : bytes_eq c.args.method.now (method_of at.endpoint) ≡ true = search rules in
    refuses_length _ _ at c.in-Err.problem (sym c.has_field.ensures ∙ c.if-has_field.false) found same (search rules)
    ∙ ap (λ q. Err q) (cc)
