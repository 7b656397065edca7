use Rattle.std.proofs.Common.{◌≡◌, length, drop}
use Rattle.thes_tables.specs.Rows.{tables_after_delta}
use Rattle.thes_store.specs.Room.{tables_in_memory, IsReadyForChanges}
use Rattle.thes_store.proofs.tables.MemTables.apply_changes.Given as goal

abbrev pub invariant-loop-change : goal.invariant-loop-change
invariant-loop-change l = record {
  tables : tables_in_memory l.self ≡ tables_after_delta l.yielded (tables_in_memory l.fn.self);
  ready : IsReadyForChanges (drop (length l.yielded) l.fn.changes.items) l.self;
}
