use Rattle.std.proofs.Common.{◌≡◌, ◌+◌, ◌-◌, ℕ, length}
use Rattle.thes_display.specs.HierarchyParts.{rank_at}
use Rattle.thes_display.proofs.number_table.set_value.Given as goal

abbrev pub invariant-opening : goal.invariant-opening
invariant-opening l = (m : ℕ) → rank_at l.table.items m ≡ rank_at l.fn.table.items m

abbrev pub decreases-opening : goal.decreases-opening
decreases-opening l = l.place + 1 - length l.table.items
