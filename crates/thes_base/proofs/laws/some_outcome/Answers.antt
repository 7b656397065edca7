use Rattle.thes_base.proofs.OutcomeLemmas.{some_outcome}
use Rattle.thes_base.proofs.laws.some_outcome.Goals as goal

pub returns : goal.returns
returns c = some_outcome
