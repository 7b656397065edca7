use Rattle.std.proofs.lemmas.Grind.{common_steps}
use Rattle.std.proofs.Common.{arith, length}
use Rattle.std.proofs.lemmas.List.Sums.{position_or_len_is}
use Rattle.thes_http_request.proofs.FieldLemmas.{no_spans}
use Rattle.thes_http_request.specs.Inbox.{spans_named}
use Rattle.thes_http_request.proofs.fields.find_field.Goals as goal

pub returns-then-is_named : goal.returns-then-is_named
returns-then-is_named c = grind (arith, common_steps, position_or_len_is)

pub returns : goal.returns
returns c =
    let named = spans_named c.args.name.now c.args.bytes.now in
    let all = c.loop-at-test.false in
    position_or_len_is named c.args.headers.now (length c.args.headers.now) no_spans (omega arith)
    (λ k l. c.loop-at.invariant k no_spans (omega (arith, all, l))) (λ l. absurd (omega (arith, l)))
