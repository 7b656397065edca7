use Rattle.thes_base.proofs.MachineLemmas.{triples_match_rules}
use Rattle.thes_base.proofs.laws.triples_match_rules.Goals as goal

pub returns : goal.returns
returns c = triples_match_rules
