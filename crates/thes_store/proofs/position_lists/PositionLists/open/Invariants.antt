use Rattle.std.proofs.Common.{◌+◌, ◌-◌, length}
use Rattle.thes_store.specs.PositionLists.{KeepsListedPositions}
use Rattle.thes_store.proofs.position_lists.PositionLists.open.Given as goal

abbrev pub invariant-opening : goal.invariant-opening
invariant-opening l = KeepsListedPositions l.fn.self l.self

abbrev pub decreases-opening : goal.decreases-opening
decreases-opening l = l.n + 1 - length l.self.lists.items
