use Rattle.std.proofs.lemmas.Grind.{common_steps}
use Rattle.std.proofs.Common.{rules, arith}
use Rattle.thes_vocab.proofs.LabelTableLemmas.{two_owned, none_two}
use Rattle.thes_vocab.proofs.labels.LabelTable.has_two_preferred.Goals as goal

pub returns-in-Some : goal.returns-in-Some
returns-in-Some c = grind (
  arith,
  common_steps,
  two_owned,
  c.in-Some.ensures,
  c.has_two_preferred.ensures.0,
  c.has_two_preferred.ensures.1,
)

pub returns-in-None : goal.returns-in-None
returns-in-None c = (λ never. search rules, λ has. absurd (none_two c.args.self.now c.args.owner c.in-None.ensures has))
