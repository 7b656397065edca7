use Rattle.thes_core.proofs.ApplyLemmas.{held_in_order}
use Rattle.thes_core.proofs.machine.Core.is_spent.Goals as goal

pub returns-clause-in_order : goal.returns-clause-in_order
returns-clause-in_order c = λ unspent s holds. held_in_order c.args.self.now s holds
