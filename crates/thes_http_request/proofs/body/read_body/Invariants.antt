use Rattle.std.proofs.Common.{◌≡◌, ◌-◌, length, vec_len, vec_capacity}
use Rattle.thes_base.specs.Pipe.{IsFresh, PaysCalls, unread_bytes}
use Rattle.thes_http_request.specs.Inbox.{HasBoundedCapacity}
use Rattle.thes_http_request.proofs.BodyLemmas.{BodySoFar}
use Rattle.thes_http_request.proofs.body.read_body.Given as goal

abbrev pub invariant-loop-chunk : goal.invariant-loop-chunk
invariant-loop-chunk g l = record {
  so_far : BodySoFar (unread_bytes g.R.Read.remaining l.fn.reader) (unread_bytes g.R.Read.remaining l.reader) l.start
      l.count l.body.items;
  fresh : IsFresh l.reader;
  chunk : length l.chunk ≡ 4096;
  room : HasBoundedCapacity l.count (vec_len l.body) (vec_capacity l.body);
  paid : PaysCalls l.fn.reader l.reader l.fn.budget l.budget;
}

abbrev pub decreases-loop-chunk : goal.decreases-loop-chunk
decreases-loop-chunk g l = l.count - length l.body.items
