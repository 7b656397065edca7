use Rattle.std.proofs.Common.{arith}
use Rattle.thes_export.proofs.TopicLemmas.{related_lines}
use Rattle.thes_export.proofs.link_lines.push_related.Goals as goal

pub returns : goal.returns
returns c = grind (arith, related_lines)
