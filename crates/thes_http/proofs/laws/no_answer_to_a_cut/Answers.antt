use Rattle.thes_http.proofs.AnswerLemmas.{cut_has_no_answer}
use Rattle.thes_http.proofs.laws.no_answer_to_a_cut.Goals as goal

pub returns : goal.returns
returns g c = cut_has_no_answer g.S.Service.behaviour
