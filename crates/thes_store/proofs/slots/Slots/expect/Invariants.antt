use Rattle.std.proofs.Common.{◌≡◌, ◌≤◌, ◌+◌, length, take}
use Rattle.std.specs.Prelude.{vec_len}
use Rattle.thes_store.specs.AddedRow.{rows_added_by}
use Rattle.thes_store.specs.Slots.{AreExpected, GrowsIndex}
use Rattle.thes_store.proofs.slots.Slots.expect.Given as goal

abbrev pub invariant-loop-change : goal.invariant-loop-change
invariant-loop-change g l = record {
  keeps : GrowsIndex l.fn.self l.self;
  position : l.position ≡ vec_len l.fn.self.rows
      + length (rows_added_by g.T.AddedRow.added_row (take l.change-index l.changes));
  least : l.position ≤ vec_len l.fn.self.rows + l.change-index;
  expected : AreExpected g.T.IndexedRow.number_of l.self
      (rows_added_by g.T.AddedRow.added_row (take l.change-index l.changes));
}
