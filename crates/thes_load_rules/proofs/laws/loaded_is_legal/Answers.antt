use Rattle.thes_load_rules.proofs.LoadedStateLemmas.{loaded_state_legal}
use Rattle.thes_load_rules.proofs.laws.loaded_is_legal.Goals as goal

pub returns : goal.returns
returns c = loaded_state_legal
