use Rattle.std.proofs.Common.{arith}
use Rattle.std.proofs.lemmas.List.{take_all}
use Rattle.thes_vocab.proofs.vocab.Vocab.missing_labels.Goals as goal

pub returns : goal.returns
returns c = grind (arith, take_all)
