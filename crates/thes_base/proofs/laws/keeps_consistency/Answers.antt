use Rattle.thes_base.proofs.MachineLemmas.{keeps_consistency}
use Rattle.thes_base.proofs.laws.keeps_consistency.Goals as goal

pub returns : goal.returns
returns c = keeps_consistency
