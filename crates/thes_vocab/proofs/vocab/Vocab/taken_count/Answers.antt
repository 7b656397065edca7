use Rattle.std.proofs.Common.{arith}
use Rattle.std.proofs.lemmas.List.{take_all}
use Rattle.thes_vocab.proofs.MergedRowLemmas.{taken_len}
use Rattle.thes_vocab.proofs.vocab.Vocab.taken_count.Goals as goal

pub returns : goal.returns
returns c = grind (arith, take_all, taken_len)
