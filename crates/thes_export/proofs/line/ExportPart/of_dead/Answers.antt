use Rattle.std.proofs.Common.{arith}
use Rattle.thes_export.proofs.LineLemmas.{made_line}
use Rattle.thes_export.proofs.line.ExportPart.of_dead.Goals as goal

pub returns : goal.returns
returns c = grind (arith, made_line)
