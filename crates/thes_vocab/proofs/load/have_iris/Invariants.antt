use Rattle.thes_vocab.specs.Loading.{HaveIrisUpTo}
use Rattle.thes_vocab.proofs.load.have_iris.Given as goal

abbrev pub invariant-loop-i : goal.invariant-loop-i
invariant-loop-i l = HaveIrisUpTo l.i l.resources l.iris
