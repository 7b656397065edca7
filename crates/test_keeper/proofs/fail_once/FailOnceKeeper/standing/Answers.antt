use Rattle.std.proofs.Common.{arith}
use Rattle.std.proofs.lemmas.Grind.{common_steps}
use Rattle.thes_store.proofs.SinkLemmas.{none_accepted}
use Rattle.test_keeper.proofs.fail_once.FailOnceKeeper.standing.Goals as goal

pub returns-then-eq-clause-yields : goal.returns-then-eq-clause-yields
returns-then-eq-clause-yields g c = grind (arith, common_steps, none_accepted)
