use Rattle.std.proofs.Common.{◌≡◌, take}
use Rattle.std.specs.List.{count_by}
use Rattle.thes_http_request.specs.Heads.{is_line_feed}
use Rattle.thes_http_request.proofs.head.whole_lines.Given as goal

abbrev pub invariant-loop-byte : goal.invariant-loop-byte
invariant-loop-byte l = l.lines ≡ count_by is_line_feed (take l.byte-index l.head)
