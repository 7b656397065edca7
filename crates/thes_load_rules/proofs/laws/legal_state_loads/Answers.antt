use Rattle.thes_load_rules.proofs.LegalTableLemmas.{held_loads}
use Rattle.thes_load_rules.proofs.laws.legal_state_loads.Goals as goal

pub returns : goal.returns
returns c = held_loads
