use Rattle.std.proofs.Common.{◌≡◌, ◌<◌, ℕ, false, get_or}
use Rattle.httparse.specs.declared.spans.HeaderSpan.{HeaderSpan}
use Rattle.thes_http_request.specs.Inbox.{spans_named}
use Rattle.thes_http_request.proofs.fields.find_field.Given as goal

abbrev pub invariant-loop-at : goal.invariant-loop-at
invariant-loop-at l = (k : ℕ) (d : HeaderSpan) → k < l.at → spans_named l.name l.bytes (get_or l.headers k d) ≡ false
