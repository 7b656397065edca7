-- A sink that passes its rows to another.
use Rattle.std.specs.Prelude.{◌≡◌, List, Option, Result}
use Rattle.thes_base.specs.declared.fault.Fault.{Fault}
use Rattle.thes_base.specs.declared.fault.Table.{Table}
use Rattle.thes_tables.specs.declared.cells.Cell.{Cell}
use Rattle.thes_sqlite.specs.declared.progress.counting_sink.CountingSink.{CountingSink}

module _ {S P : Type 0} (gives : S → Table × Option (List Cell) → Result (Unit {0}) Fault → S → Type 0) where
  -- The row was passed to the inner sink; the effect and the result of the call are those of the inner sink.
  abbrev pub Passes : CountingSink S P → Table × Option (List Cell) → Result (Unit {0}) Fault → CountingSink S P
      → Type 0
  Passes old came result new = (new.sink.ghost_name ≡ old.sink.ghost_name) × gives old.sink.now came result new.sink.now
