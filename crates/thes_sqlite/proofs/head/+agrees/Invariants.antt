use Rattle.std.proofs.Common.{length}
use Rattle.thes_sqlite.proofs.head.+agrees.Given as goal

abbrev pub decreases-agrees : goal.decreases-agrees
decreases-agrees l = length l.head.now
