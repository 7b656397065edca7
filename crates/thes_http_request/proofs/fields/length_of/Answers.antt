use Rattle.std.proofs.lemmas.Grind.{common_steps}
use Rattle.std.proofs.Common.{arith, rules, sym, ◌≡◌, true}
use Rattle.thes_http_request.specs.Fields.{is_length}
use Rattle.thes_http_request.proofs.FieldLemmas.{length_bad, length_utf8, length_read, length_over, length_unread}
use Rattle.thes_http_request.proofs.fields.length_of.Goals as goal

pub returns-then-not-is_length : goal.returns-then-not-is_length
returns-then-not-is_length c = sym (length_bad c.args.limit c.args.text.now (search rules))

pub returns-in_default : goal.returns-in_default
returns-in_default c = grind (arith, common_steps, length_utf8)

pub returns-in-Ok-parse : goal.returns-in-Ok-parse
returns-in-Ok-parse c =
    let digits : is_length c.args.text.now ≡ true = search rules in
    sym (length_read c.args.limit c.args.text.now c.in-Ok.digits.now digits (search rules) c.in-Ok-parse.length
    c.in-Ok-parse.ensures.value.0 c.if-length-limit.true)

pub returns-in_default-parse : goal.returns-in_default-parse
returns-in_default-parse c =
    let digits : is_length c.args.text.now ≡ true = search rules in
    sym (length_over c.args.limit c.args.text.now c.in-Ok.digits.now digits (search rules) c.in-Ok-parse.length
    c.in-Ok-parse.ensures.value.0 c.if-length-limit.false)

pub returns-in_default-parse-2 : goal.returns-in_default-parse-2
returns-in_default-parse-2 c = grind (arith, common_steps, length_unread)
