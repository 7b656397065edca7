use Rattle.std.proofs.Common.{arith}
use Rattle.thes_export.proofs.TopicLemmas.{narrower_lines}
use Rattle.thes_export.proofs.link_lines.push_narrower.Goals as goal

pub returns : goal.returns
returns c = grind (arith, narrower_lines)
