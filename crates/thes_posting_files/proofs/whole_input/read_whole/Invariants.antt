use Rattle.std.proofs.Common.{◌≡◌, length}
use Rattle.thes_base.specs.Pipe.{IsFresh, PaysCalls}
use Rattle.thes_posting_files.specs.WholeInput.{HasReadBytes}
use Rattle.thes_posting_files.proofs.whole_input.read_whole.Given as goal

abbrev pub invariant-loop-bytes : goal.invariant-loop-bytes
invariant-loop-bytes g l = record {
  read : HasReadBytes g.R.Read.remaining l.limit l.fn.reader l.reader l.bytes.items;
  fresh : IsFresh l.reader;
  room : length l.chunk ≡ 4096;
  paid : PaysCalls l.fn.reader l.reader l.fn.budget l.budget;
}

abbrev pub decreases-loop-bytes : goal.decreases-loop-bytes
decreases-loop-bytes g l = l.budget
