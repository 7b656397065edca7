use Rattle.std.proofs.Common.{◌≡◌, ℕ, take, false}
use Rattle.std.specs.Prelude.{slice_get}
use Rattle.thes_tables.specs.Tables.{IsIn}
use Rattle.thes_store.specs.Slots.{is_same_row}
use Rattle.thes_store.specs.PositionLists.{listed_positions}
use Rattle.thes_store.proofs.slots.Slots.position_of.Given as goal

abbrev pub invariant-loop-position : goal.invariant-loop-position
invariant-loop-position g l = (position : ℕ) → IsIn position (take l.position-index (listed_positions l.self.index
    (g.T.IndexedRow.number_of l.row))) → is_same_row g.T.IndexedRow.same (slice_get l.self.rows.items position) l.row
    ≡ false
