use Rattle.std.proofs.Common.{arith}
use Rattle.std.proofs.lemmas.Fn.{always_returns_same}
use Rattle.thes_vocab.proofs.OwnLabelLemmas.{place_of_search}
use Rattle.thes_vocab.proofs.row.search.Goals as goal

pub returns : goal.returns
returns c = grind (arith, always_returns_same, place_of_search)
