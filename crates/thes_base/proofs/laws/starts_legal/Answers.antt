use Rattle.thes_base.proofs.MachineLemmas.{legal_empty}
use Rattle.thes_base.proofs.laws.starts_legal.Goals as goal

pub returns : goal.returns
returns c = legal_empty
