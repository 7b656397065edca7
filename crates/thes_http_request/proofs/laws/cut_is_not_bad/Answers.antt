use Rattle.thes_http_request.proofs.HeadLemmas.{cut_is_not_bad}
use Rattle.thes_http_request.proofs.laws.cut_is_not_bad.Goals as goal

pub returns : goal.returns
returns c = cut_is_not_bad
