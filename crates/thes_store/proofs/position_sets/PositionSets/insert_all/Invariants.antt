use Rattle.std.proofs.Common.{ℕ, take}
use Rattle.thes_tables.specs.Tables.{IsIn}
use Rattle.thes_store.specs.PositionSets.{HasPosition, KeepsPositions}
use Rattle.thes_store.proofs.position_sets.PositionSets.insert_all.Given as goal

abbrev pub invariant-loop-position : goal.invariant-loop-position
invariant-loop-position l = KeepsPositions l.fn.self l.self × ((position : ℕ) → IsIn position (take l.position-index
    l.positions)
    → HasPosition l.self l.n position)
