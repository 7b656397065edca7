use Rattle.thes_row_lists.proofs.ArrangedRowLemmas.{one_in_any_order}
use Rattle.thes_row_lists.proofs.laws.any_order.Goals as goal

pub returns : goal.returns
returns c = one_in_any_order
