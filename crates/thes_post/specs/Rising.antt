-- Lists of strictly increasing numbers.
use Rattle.std.specs.Prelude.{◌≤◌, ◌+◌, List, [], ◌∷◌}
use Rattle.thes_base.specs.Types.{Number}

-- The numbers are strictly increasing, and the first is at least `least`.
abbrev pub RisesFrom : Number → List Number → Type 0
RisesFrom least [] = Unit {0}
RisesFrom least (n ∷ ns) = (least ≤ n) × RisesFrom (n + 1) ns
