use Rattle.std.proofs.lemmas.Grind.{common_steps}
use Rattle.std.proofs.Common.{arith}
use Rattle.thes_requests.proofs.ChangeTextLemmas.{items_next}
use Rattle.thes_requests.proofs.change_list.items_of.Goals as goal

pub loop-change-preserved : goal.loop-change-preserved
loop-change-preserved c = grind (arith, common_steps, items_next)
