use Rattle.std.proofs.Common.{rules, inl, inr, ◌<◌, ◌+◌}
use Rattle.httparse.specs.Grammar.{HasNoRequest}
use Rattle.thes_http_request.specs.Heads.{fields_limit, whole_lines}
use Rattle.thes_http_request.proofs.HeadLemmas.{none_of_never}
use Rattle.thes_http_request.proofs.head.head_of.Goals as goal
use Rattle.thes_http_request.proofs.head.head_of.Goals.{in-Ok-Partial, in-Err}
use Rattle.thes_http_request.proofs.head.head_of.Goals.{else-may_come-via-then-may_come+else-whole_lines-le-LINES_LIMIT}
use Rattle.thes_http_request.proofs.head.head_of.Goals.{else-may_come-via-else-may_come}

pub returns-else-may_come-clause-bad : goal.returns-else-may_come-clause-bad
returns-else-may_come-clause-bad c = λ h.
    let none : HasNoRequest c.args.bytes.now = elim c.match-parse_request.branch [
      | in-Ok-Partial w ↦ search rules
      | in-Err w ↦ none_of_never c.args.bytes.now (search rules)
    ] in elim c.else-may_come.branch [
      | else-may_come-via-then-may_come+else-whole_lines-le-LINES_LIMIT w ↦
          let many : fields_limit + 1 < whole_lines c.args.bytes.now = search rules in inr (inr (none, many))
      | else-may_come-via-else-may_come w ↦ elim c.match-parse_request.branch [
        | in-Ok-Partial v ↦ absurd (search rules)
        | in-Err v ↦ inl (record { never = search rules; past_target = search rules })
      ]
    ]
