use Rattle.std.specs.Io.KnownBytes.{Keeps}
use Rattle.thes_base.specs.Pipe.{IsFresh, PaysCalls, unread_bytes}
use Rattle.thes_base.proofs.pipe.Pipe.read.Given as goal

abbrev pub invariant-loop-budget : goal.invariant-loop-budget
invariant-loop-budget g l = record {
  fresh : IsFresh l.self;
  bytes : Keeps (unread_bytes g.R.Read.remaining l.fn.self) (unread_bytes g.R.Read.remaining l.self);
  paid : PaysCalls l.fn.self l.self l.fn.budget l.budget;
}

abbrev pub decreases-loop-budget : goal.decreases-loop-budget
decreases-loop-budget g l = l.budget
