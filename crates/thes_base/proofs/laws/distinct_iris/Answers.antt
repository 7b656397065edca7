use Rattle.thes_base.proofs.MachineLemmas.{distinct_iris}
use Rattle.thes_base.proofs.laws.distinct_iris.Goals as goal

pub returns : goal.returns
returns c = distinct_iris
