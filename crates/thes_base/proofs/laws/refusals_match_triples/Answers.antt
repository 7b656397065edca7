use Rattle.thes_base.proofs.RefusalLemmas.{refusals_match_triples}
use Rattle.thes_base.proofs.laws.refusals_match_triples.Goals as goal

pub returns : goal.returns
returns c = refusals_match_triples
