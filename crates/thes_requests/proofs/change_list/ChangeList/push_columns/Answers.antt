use Rattle.std.proofs.lemmas.Grind.{common_steps}
use Rattle.std.proofs.Common.{arith}
use Rattle.thes_requests.proofs.ChangeTextLemmas.{cells_next}
use Rattle.thes_requests.proofs.change_list.ChangeList.push_columns.Goals as goal

pub loop-column-preserved : goal.loop-column-preserved
loop-column-preserved c = grind (arith, common_steps, cells_next)
