-- What reading the rows of a database passes to a sink, and what it leaves unchanged.
use Rattle.std.specs.Prelude.{List, Option, Result, OnOk, IfErr}
use Rattle.sqlite.specs.State.{HasCleanDisk}
use Rattle.sqlite.specs.Held.{Held, state}
use Rattle.sqlite_trees.specs.declared.store.Store.{Ghosts}
use Rattle.thes_base.specs.declared.fault.Fault.{Fault}
use Rattle.thes_base.specs.declared.fault.Table.{Table}
use Rattle.thes_tables.specs.declared.cells.Cell.{Cell}
use Rattle.thes_store.specs.Sinks.{SinkOutcome, sink_rows_of_table}
use Rattle.thes_sql.specs.Reads.{IsReadable, LeavesTables}
use Rattle.thes_sqlite.specs.Faults.{IsKeeperFault}
use Rattle.thes_sqlite.specs.FoundRows.{PassesTable}
use Rattle.thes_sqlite.specs.KeeperView.{raw_table}

-- The effect of every read of rows: the tables are unchanged, and a fault is OutOfMemory or Store.
pub record RowReadFrame {S T : Type 0} (g : Ghosts S) (old new : Held S) (result : Result T Fault) : Type 0 where
  pub tables : LeavesTables g old new
  pub fault : IfErr result IsKeeperFault

-- The rows of a table are passed to a sink, if the disk hasn't failed silently.
pub record YieldsTable {S R : Type 0} (g : Ghosts S) (gives : R → Table × Option (List Cell) → Result (Unit {0}) Fault
    → R → Type 0)
    (p : Table) (old new : Held S) (before : R) (result : Result (Unit {0}) Fault) (after : R) : Type 0 where
  -- If the database is readable, the sink gets the rows of the table, or a prefix of them and the fault.
  pub rows : HasCleanDisk (state g new) → IsReadable (state g old).now
      → SinkOutcome gives before (sink_rows_of_table p (raw_table p (state g old).now.trees)) result after
  -- Whatever the database holds, success passes the rows that a load finds.
  pub content : HasCleanDisk (state g new) → OnOk result (PassesTable gives p (state g old).now before after)
