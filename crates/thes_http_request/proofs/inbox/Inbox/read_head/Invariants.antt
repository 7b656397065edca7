use Rattle.std.proofs.Common.{◌≡◌, ◌-◌, length}
use Rattle.std.specs.Io.KnownBytes.{Consumes}
use Rattle.thes_base.specs.Pipe.{IsFresh, PaysCalls, unread_bytes}
use Rattle.thes_http_request.proofs.inbox.Inbox.read_head.Given as goal

abbrev pub invariant-loop-spans : goal.invariant-loop-spans
invariant-loop-spans g l = record {
  taken : Consumes (unread_bytes g.R.Read.remaining l.fn.reader) (unread_bytes g.R.Read.remaining l.reader) l.self;
  fresh : IsFresh l.reader;
  room : length l.headers ≡ 64;
  paid : PaysCalls l.fn.reader l.reader l.fn.budget l.budget;
}

abbrev pub decreases-loop-spans : goal.decreases-loop-spans
decreases-loop-spans g l = 8193 - length l.self
