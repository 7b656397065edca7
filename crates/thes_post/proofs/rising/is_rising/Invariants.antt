use Rattle.std.proofs.Common.{drop}
use Rattle.thes_post.specs.Rising.{RisesFrom}
use Rattle.thes_post.proofs.rising.is_rising.Given as goal

-- The list rises exactly when the numbers that are left rise from `least` on.
abbrev pub invariant-loop-number : goal.invariant-loop-number
invariant-loop-number l = (RisesFrom 0 l.numbers → RisesFrom l.least (drop l.number-index l.numbers))
    × (RisesFrom l.least (drop l.number-index l.numbers) → RisesFrom 0 l.numbers)
