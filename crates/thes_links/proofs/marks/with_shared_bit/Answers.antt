use Rattle.thes_links.proofs.WordLemmas.{shared_bit_new, shared_bit_old}
use Rattle.thes_links.proofs.marks.with_shared_bit.Goals as goal

pub returns-clause-new : goal.returns-clause-new
returns-clause-new c = shared_bit_new c.args.word c.get.result c.args.n c.get.ensures.value

pub returns-clause-old : goal.returns-clause-old
returns-clause-old c = shared_bit_old c.args.word c.get.result
