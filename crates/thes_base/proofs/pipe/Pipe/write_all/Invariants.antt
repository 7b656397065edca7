use Rattle.std.proofs.Common.{◌≡◌, ◌≤◌, false, length, take}
use Rattle.std.specs.Io.KnownBytes.{Appends}
use Rattle.thes_base.specs.Pipe.{failed_of, ended_of, denied_of, written_bytes, PaysCalls}
use Rattle.thes_base.proofs.pipe.Pipe.write_all.Given as goal

abbrev pub invariant-loop-at : goal.invariant-loop-at
invariant-loop-at g l = record {
  clear : failed_of l.self ≡ false;
  ended : ended_of l.self ≡ ended_of l.fn.self;
  denied : denied_of l.self ≡ denied_of l.fn.self;
  within : l.at ≤ length l.bytes;
  bytes : Appends (written_bytes g.W.Write.contents l.fn.self) (written_bytes g.W.Write.contents l.self)
      (take l.at l.bytes);
  paid : PaysCalls l.fn.self l.self l.fn.budget l.budget;
}

abbrev pub decreases-loop-at : goal.decreases-loop-at
decreases-loop-at g l = l.budget
