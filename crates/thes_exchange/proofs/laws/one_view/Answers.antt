use Rattle.thes_exchange.proofs.OneViewLemmas.{one_view}
use Rattle.thes_exchange.proofs.laws.one_view.Goals as goal

pub returns : goal.returns
returns c = one_view
