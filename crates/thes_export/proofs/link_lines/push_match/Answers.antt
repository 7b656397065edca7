use Rattle.std.proofs.Common.{arith}
use Rattle.thes_export.proofs.TopicLemmas.{match_line, one_way}
use Rattle.thes_export.proofs.link_lines.push_match.Goals as goal

pub returns : goal.returns
returns c = grind (arith, match_line, one_way)
