use Rattle.thes_base.proofs.ForwardingLemmas.{forwards_to_end}
use Rattle.thes_base.proofs.laws.forwards_to_end.Goals as goal

pub returns : goal.returns
returns c = λ base s legal concept. forwards_to_end s.resources base s.iris legal concept
