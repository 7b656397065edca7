use Rattle.std.proofs.lemmas.Grind.{common_steps}
use Rattle.std.proofs.Common.{arith}
use Rattle.thes_command_line.proofs.printing.print_error.Goals as goal

pub returns : goal.returns
returns g c = grind (arith, common_steps)
