use Rattle.std.proofs.lemmas.Grind.{common_steps}
use Rattle.std.proofs.Common.{arith}
use Rattle.thes_requests.proofs.ChangeTextLemmas.{printed_string}
use Rattle.thes_requests.proofs.change_list.ChangeList.push_string.Goals as goal

pub returns : goal.returns
returns c = grind (arith, common_steps, printed_string)
