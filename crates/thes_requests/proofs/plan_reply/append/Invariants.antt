use Rattle.std.proofs.Common.{◌≡◌, ◌+◌, ◌++◌, take, vec_len, vec_capacity}
use Rattle.thes_requests.proofs.plan_reply.append.Given as goal

abbrev pub invariant-loop-byte : goal.invariant-loop-byte
invariant-loop-byte l = record {
  items : l.line.items ≡ l.fn.line.items ++ take l.byte-index l.bytes;
  len : vec_len l.line ≡ vec_len l.fn.line + l.byte-index;
  capacity : vec_capacity l.line ≡ vec_capacity l.fn.line;
}
