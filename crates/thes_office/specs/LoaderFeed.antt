-- The rows that a loader has received, and the loader after the next row.
use Rattle.std.specs.Prelude.{◌≡◌, List, Option, Result, Ok, Err}
use Rattle.thes_base.specs.declared.data.Limits.{Limits}
use Rattle.thes_base.specs.declared.fault.Fault.{Fault}
use Rattle.thes_base.specs.declared.fault.Fault.TheVariants as faults
use Rattle.thes_base.specs.declared.fault.Table.{Table}
use Rattle.thes_base.specs.declared.fault.Table.TheVariants as table
use Rattle.thes_tables.specs.declared.cells.Cell.{Cell}
use Rattle.thes_tables.specs.Cells.{Raw}
use Rattle.thes_load_rows.specs.declared.stage.Stage.TheVariants as stage
use Rattle.thes_load_rows.specs.Progress.{HasRead, stage_table, raw_without_rows}
use Rattle.thes_load_rows.specs.Turns.{NextStage}
use Rattle.thes_office.specs.declared.loader.Loader.{Loader}

-- The loader has received these rows.
abbrev pub KnowsRows : Loader → Raw → Type 0
KnowsRows loader raw = HasRead loader.stage raw

-- The loader has received no row, and waits for those of the first table, meta.
pub record IsBegun (limits : Limits) (loader : Loader) : Type 0 where
  pub table_is : stage_table loader.stage ≡ table.Meta
  pub none : KnowsRows loader raw_without_rows
  pub limits_are : loader.limits ≡ limits

-- The loader after a row, or after the report that the table can't be queried; after running out of memory, the loader
-- has stopped with that fault.
abbrev pub FeedResult : Loader → Table × Option (List Cell) → Result (Unit {0}) Fault → Loader → Type 0
FeedResult old news (Ok done) new = (new.limits ≡ old.limits) × NextStage news.0 news.1 old.stage new.stage
FeedResult old news (Err fault) new =
    (fault ≡ faults.OutOfMemory) × (new ≡ record old { stage = stage.Stopped faults.OutOfMemory table.Meta })
