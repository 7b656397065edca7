use Rattle.thes_export.specs.Holdings.{AreTopsUpTo}
use Rattle.thes_export.proofs.holdings.tops_by_scheme.Given as goal

abbrev pub invariant-loop-i : goal.invariant-loop-i
invariant-loop-i l = AreTopsUpTo l.core l.i l.tops
