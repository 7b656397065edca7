use Rattle.thes_export.specs.Holdings.{AreMembersUpTo}
use Rattle.thes_export.proofs.holdings.members_by_collection.Given as goal

abbrev pub invariant-loop-i : goal.invariant-loop-i
invariant-loop-i l = AreMembersUpTo l.core l.i l.members
