use Rattle.std.proofs.Common.{arith}
use Rattle.thes_export.proofs.TopicLemmas.{member_lines}
use Rattle.thes_export.proofs.link_lines.push_members.Goals as goal

pub returns : goal.returns
returns c = grind (arith, member_lines)
