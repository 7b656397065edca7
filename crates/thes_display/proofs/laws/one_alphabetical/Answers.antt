use Rattle.thes_display.proofs.OneTextLemmas.{one_alphabetical}
use Rattle.thes_display.proofs.laws.one_alphabetical.Goals as goal

pub returns : goal.returns
returns c = one_alphabetical
