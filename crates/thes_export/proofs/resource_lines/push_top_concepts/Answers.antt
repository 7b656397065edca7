use Rattle.std.proofs.Common.{arith}
use Rattle.thes_export.proofs.TopicLemmas.{top_concept_lines}
use Rattle.thes_export.proofs.resource_lines.push_top_concepts.Goals as goal

pub returns : goal.returns
returns c = grind (arith, top_concept_lines)
