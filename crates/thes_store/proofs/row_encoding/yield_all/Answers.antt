use Rattle.std.proofs.Common.{arith}
use Rattle.std.proofs.lemmas.Grind.{common_steps}
use Rattle.thes_store.proofs.row_encoding.yield_all.Goals as goal

pub returns-clause-yields : goal.returns-clause-yields
returns-clause-yields g c = grind (arith, common_steps)
