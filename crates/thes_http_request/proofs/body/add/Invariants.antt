use Rattle.std.proofs.Common.{◌≡◌, ◌+◌, ◌++◌, take, vec_len, vec_capacity}
use Rattle.thes_http_request.proofs.body.add.Given as goal

abbrev pub invariant-loop-byte : goal.invariant-loop-byte
invariant-loop-byte l = record {
  items : l.body.items ≡ l.fn.body.items ++ take l.byte-index l.bytes;
  len : vec_len l.body ≡ vec_len l.fn.body + l.byte-index;
  capacity : vec_capacity l.body ≡ vec_capacity l.fn.body;
}
