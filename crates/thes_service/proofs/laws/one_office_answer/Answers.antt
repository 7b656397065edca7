use Rattle.thes_service.proofs.OfficeAnswerLemmas.{one_office_answer}
use Rattle.thes_service.proofs.laws.one_office_answer.Goals as goal

pub returns : goal.returns
returns g c = one_office_answer g.K.Keeper.view g.L.Keeper.view
