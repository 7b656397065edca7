use Rattle.std.proofs.Common.{arith}
use Rattle.thes_vocab.proofs.IriLemmas.{inverse_of_empty, empty_get, empty_numbers}
use Rattle.thes_vocab.proofs.iris.IriTable.new.Goals as goal

pub invariant_of-result : goal.invariant_of-result
invariant_of-result c = grind (arith, empty_get, empty_numbers, inverse_of_empty)
