-- Loads of storage whose tables may hold anything.
use Rattle.std.specs.Prelude.{List, Option, Result, OnOk}
use Rattle.thes_base.specs.declared.fault.Fault.{Fault}
use Rattle.thes_base.specs.declared.fault.Table.{Table}
use Rattle.thes_tables.specs.declared.cells.Cell.{Cell}
use Rattle.thes_tables.specs.Cells.{Raw}
use Rattle.thes_store.specs.Sinks.{SinkAcceptsAll, sink_rows}

-- If the storage is still open after a load, it was open before, and all rows that a load might have found in its
-- tables may still be found. A load that succeeded has passed such rows to the sink.
pub record PassesFound {K S : Type 0} (is_open : K → Type 0) (finds : K → Raw → Type 0)
    (gives : S → Table × Option (List Cell) → Result (Unit {0}) Fault → S → Type 0) (old new : K) (before : S)
    (result : Result (Unit {0}) Fault) (after : S) : Type 0 where
  pub was : is_open new → is_open old
  pub stays : is_open new → (raw : Raw) → finds old raw → finds new raw
  pub passes : OnOk result (is_open new → (raw : Raw) × finds old raw
      × SinkAcceptsAll gives before (sink_rows raw) after)
