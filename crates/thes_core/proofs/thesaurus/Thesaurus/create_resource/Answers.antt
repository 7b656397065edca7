use Rattle.std.proofs.Common.{arith}
use Rattle.thes_core.proofs.ApplyLemmas.{made_outside, made_other, made_counts}
use Rattle.thes_core.proofs.thesaurus.Thesaurus.create_resource.Goals as goal

pub returns-in_ok-mark_outside : goal.returns-in_ok-mark_outside
returns-in_ok-mark_outside c = grind (arith, made_counts, made_outside)

pub returns-else-is_outside : goal.returns-else-is_outside
returns-else-is_outside c = grind (arith, made_counts, made_other)
