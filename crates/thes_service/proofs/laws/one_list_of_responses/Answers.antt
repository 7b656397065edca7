use Rattle.thes_service.proofs.ExchangeLemmas.{one_list_of_responses}
use Rattle.thes_service.proofs.laws.one_list_of_responses.Goals as goal

pub returns : goal.returns
returns g c = one_list_of_responses g.K.Keeper.view g.L.Keeper.view
