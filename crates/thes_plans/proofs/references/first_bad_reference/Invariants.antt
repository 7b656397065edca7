use Rattle.std.proofs.Common.{take}
use Rattle.thes_plans.specs.References.{AreGoodReferences}
use Rattle.thes_plans.proofs.references.first_bad_reference.Given as goal

abbrev pub invariant-loop-index : goal.invariant-loop-index
invariant-loop-index l = AreGoodReferences (take l.index l.plan)
