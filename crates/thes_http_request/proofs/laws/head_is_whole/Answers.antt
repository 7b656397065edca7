use Rattle.thes_http_request.proofs.HeadLawLemmas.{head_is_whole}
use Rattle.thes_http_request.proofs.laws.head_is_whole.Goals as goal

pub returns : goal.returns
returns c = head_is_whole
