use Rattle.thes_vocab.specs.Loading.{HavePreferredUpTo}
use Rattle.thes_vocab.proofs.load.are_named.Given as goal

abbrev pub invariant-loop-i : goal.invariant-loop-i
invariant-loop-i l = HavePreferredUpTo l.i l.resources l.labels
