use Rattle.std.proofs.Common.{◌≡◌, length}
use Rattle.thes_http_request.specs.Heads.{after_blank_lines}
use Rattle.thes_http_request.proofs.head.after_blank_lines.Given as goal

abbrev pub invariant-loop-more : goal.invariant-loop-more
invariant-loop-more l = after_blank_lines l.rest ≡ after_blank_lines l.fn.bytes

abbrev pub decreases-loop-more : goal.decreases-loop-more
decreases-loop-more l = length l.rest
