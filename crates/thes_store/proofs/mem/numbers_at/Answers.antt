use Rattle.std.proofs.Common.{arith}
use Rattle.std.proofs.lemmas.Grind.{common_steps}
use Rattle.thes_store.proofs.IndexPositionLemmas.{picked_mapped}
use Rattle.thes_store.proofs.mem.numbers_at.Goals as goal

pub loop-position-preserved : goal.loop-position-preserved
loop-position-preserved c = grind (arith, common_steps, picked_mapped)
