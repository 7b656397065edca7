use Rattle.std.proofs.lemmas.Grind.{common_steps}
use Rattle.std.proofs.Common.{arith, rules, sym, ◌∙◌, ◌+◌, map, ap}
use Rattle.std.proofs.lemmas.List.{take_rest}
use Rattle.std.specs.Char.{to_ascii_lowercase}
use Rattle.httparse.specs.Spans.{header_bytes}
use Rattle.thes_http_request.specs.Fields.{has_field, length_of}
use Rattle.thes_http_request.proofs.FieldLemmas.{no_spans, no_length, many_fields_refused, one_field_length}
use Rattle.thes_http_request.proofs.fields.length_named.Goals as goal

pub returns-in_default : goal.returns-in_default
returns-in_default c = grind (arith, common_steps, no_length)

pub returns-then-has_field : goal.returns-then-has_field
returns-then-has_field c = grind (arith, common_steps, take_rest, many_fields_refused)

pub returns : goal.returns
returns c =
    let name = map to_ascii_lowercase c.args.name.now in
    let shown = header_bytes c.args.bytes.now in
    let after = ap (λ t. has_field name (map shown t)) (sym (take_rest c.args.headers.now (c.in-Some.at + 1)))
    ∙ (sym c.has_field.ensures ∙ c.if-has_field.false) in
    c.length_of.ensures
    ∙ (ap (length_of c.args.limit) c.of.ensures
    ∙ sym (one_field_length name shown c.args.headers.now c.args.limit c.in-Some.at no_spans (search rules)
    (search rules) after))
