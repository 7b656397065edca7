use Rattle.thes_export.specs.Topics.{AreParts}
use Rattle.thes_export.proofs.gather.all_parts.Given as goal

abbrev pub invariant-loop-i : goal.invariant-loop-i
invariant-loop-i l = AreParts l.core l.i l.parts.items
