use Rattle.std.proofs.Common.{◌+◌, ◌-◌, length}
use Rattle.thes_store.specs.PositionSets.{KeepsPositions}
use Rattle.thes_store.proofs.position_sets.PositionSets.open.Given as goal

abbrev pub invariant-opening : goal.invariant-opening
invariant-opening l = KeepsPositions l.fn.self l.self

abbrev pub decreases-opening : goal.decreases-opening
decreases-opening l = l.n + 1 - length l.self.sets.items
