use Rattle.std.proofs.Common.{arith}
use Rattle.thes_load_rows.proofs.names.OutsideLoad.new.Goals as goal

pub returns : goal.returns
returns c = grind (arith)
