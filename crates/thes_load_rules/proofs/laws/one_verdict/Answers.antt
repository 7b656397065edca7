use Rattle.thes_load_rules.proofs.OneVerdictLemmas.{loads_single}
use Rattle.thes_load_rules.proofs.laws.one_verdict.Goals as goal

pub returns : goal.returns
returns c = loads_single
