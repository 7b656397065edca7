use Rattle.thes_display.proofs.OneTextLemmas.{one_hierarchical}
use Rattle.thes_display.proofs.laws.one_hierarchical.Goals as goal

pub returns : goal.returns
returns c = one_hierarchical
