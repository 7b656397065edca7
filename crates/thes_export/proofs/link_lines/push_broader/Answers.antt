use Rattle.std.proofs.Common.{arith}
use Rattle.thes_export.proofs.TopicLemmas.{broader_lines}
use Rattle.thes_export.proofs.link_lines.push_broader.Goals as goal

pub returns : goal.returns
returns c = grind (arith, broader_lines)
