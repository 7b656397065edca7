use Rattle.thes_http.proofs.AnswerLemmas.{one_call}
use Rattle.thes_http.proofs.laws.one_call.Goals as goal

pub returns : goal.returns
returns g c = one_call g.S.Service.behaviour
