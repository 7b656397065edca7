use Rattle.thes_http_request.proofs.HeadLawLemmas.{one_head}
use Rattle.thes_http_request.proofs.laws.one_head.Goals as goal

pub returns : goal.returns
returns c = one_head
