use Rattle.thes_display.proofs.HomeLineLemmas.{one_home}
use Rattle.thes_display.proofs.laws.one_home.Goals as goal

pub returns : goal.returns
returns c = one_home
