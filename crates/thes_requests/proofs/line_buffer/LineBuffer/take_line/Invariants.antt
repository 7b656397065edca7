use Rattle.std.proofs.Common.{◌≤◌, ◌-◌, ◌+◌}
use Rattle.thes_base.specs.Pipe.{IsFresh, PaysCalls}
use Rattle.thes_requests.specs.LineBuffer.{bytes_left, line_limit}
use Rattle.thes_requests.proofs.LineBufferLemmas.{LineSoFar}
use Rattle.thes_requests.proofs.line_buffer.LineBuffer.take_line.Given as goal

abbrev pub invariant-loop-taken : goal.invariant-loop-taken
invariant-loop-taken g l = record {
  front : LineSoFar (bytes_left g.R.Read.remaining l.fn.self l.fn.reader)
      (bytes_left g.R.Read.remaining l.self l.reader) l.line.items l.held l.taken;
  fresh : IsFresh l.reader;
  paid : PaysCalls l.fn.reader l.reader l.fn.budget l.budget;
  most : l.taken ≤ line_limit + 1;
}

abbrev pub decreases-loop-taken : goal.decreases-loop-taken
decreases-loop-taken g l = line_limit + 1 - l.taken
