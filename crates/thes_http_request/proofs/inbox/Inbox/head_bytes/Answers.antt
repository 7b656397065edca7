use Rattle.std.proofs.Common.{sym, take_all, ◌≤◌, length, arith}
use Rattle.std.proofs.lemmas.List.{length-take-le}
use Rattle.thes_http_request.specs.Heads.{head_limit}
use Rattle.thes_http_request.proofs.inbox.Inbox.head_bytes.Goals as goal

pub slice_bounds-result-end : goal.slice_bounds-result-end
slice_bounds-result-end c =
    let long : 8192 ≤ length c.bytes-bytes.result.now = omega (arith, c.if-bytes-gt-HEAD_LIMIT.true) in
    sym (length-take-le 8192 c.bytes-bytes.result.now long)

pub returns-else-bytes-gt-HEAD_LIMIT : goal.returns-else-bytes-gt-HEAD_LIMIT
returns-else-bytes-gt-HEAD_LIMIT c =
    let short : length c.bytes-bytes.result.now ≤ head_limit = omega (arith, c.if-bytes-gt-HEAD_LIMIT.false) in
    rw (← c.bytes-bytes.ensures) (sym (take_all head_limit c.bytes-bytes.result.now short))
