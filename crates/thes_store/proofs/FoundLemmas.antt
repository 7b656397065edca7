-- Proves that a load of storage whose rows are known passes these rows to the sink, and finds no others.
use Rattle.std.proofs.Common.{arith, ◌≡◌, List, Option, Result}
use Rattle.std.proofs.lemmas.Grind.{common_steps}
use Rattle.thes_base.specs.declared.fault.Fault.{Fault}
use Rattle.thes_base.specs.declared.fault.Table.{Table}
use Rattle.thes_tables.specs.declared.cells.Cell.{Cell}
use Rattle.thes_tables.specs.Cells.{Raw}
use Rattle.thes_store.specs.FoundLoads.{PassesFound}
use Rattle.thes_store.specs.Sinks.{SinkOutcome, sink_rows}

module _ {K S : Type 0} (rows : K → Raw)
    (gives : S → Table × Option (List Cell) → Result (Unit {0}) Fault → S → Type 0) where
  pub passes_known : (old new : K) (before : S) (result : Result (Unit {0}) Fault) (after : S)
      → SinkOutcome gives before (sink_rows (rows old)) result after → rows new ≡ rows old
      → PassesFound (λ (k : K). Unit {0}) (λ (k : K) (raw : Raw). raw ≡ rows k) gives old new before result after
  passes_known old new before result after yields same = grind (arith, common_steps)
