use Rattle.thes_http.proofs.AnswerLemmas.{one_answer}
use Rattle.thes_http.proofs.laws.one_answer.Goals as goal

pub returns : goal.returns
returns g c = one_answer g.S.Service.behaviour
