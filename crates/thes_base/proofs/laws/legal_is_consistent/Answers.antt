use Rattle.thes_base.proofs.MachineLemmas.{legal_is_consistent}
use Rattle.thes_base.proofs.laws.legal_is_consistent.Goals as goal

pub returns : goal.returns
returns c = legal_is_consistent
