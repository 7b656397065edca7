use Rattle.thes_service.proofs.ScriptAnswerLemmas.{one_script}
use Rattle.thes_service.proofs.laws.one_script.Goals as goal

pub returns : goal.returns
returns g c = one_script g.K.Keeper.view g.L.Keeper.view
