use Rattle.std.proofs.Common.{◌≡◌, take}
use Rattle.thes_store.specs.AddedRow.{rows_added_by, changed_label}
use Rattle.thes_store.proofs.packed_label.pack_labels.Given as goal

abbrev pub invariant-loop-change : goal.invariant-loop-change
invariant-loop-change l = l.packed.items ≡ rows_added_by changed_label (take l.change-index l.changes)
