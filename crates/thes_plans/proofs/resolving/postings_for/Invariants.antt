use Rattle.std.proofs.Common.{◌≡◌, take}
use Rattle.thes_plans.specs.Resolving.{resolved_numbers}
use Rattle.thes_plans.proofs.resolving.postings_for.Given as goal

abbrev pub invariant-loop-index : goal.invariant-loop-index
invariant-loop-index l = l.numbers ≡ resolved_numbers l.answers l.references (take l.index l.own)
