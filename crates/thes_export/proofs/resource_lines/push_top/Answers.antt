use Rattle.std.proofs.Common.{arith}
use Rattle.thes_export.proofs.TopicLemmas.{top_line}
use Rattle.thes_export.proofs.resource_lines.push_top.Goals as goal

pub returns-in_ok-push_node-in-Some : goal.returns-in_ok-push_node-in-Some
returns-in_ok-push_node-in-Some c = grind (arith, top_line)
