use Rattle.std.proofs.Common.{◌≡◌, []}
use Rattle.thes_tables.specs.Tables.{Tables}
use Rattle.test_keeper.specs.PostedTables.{FitUpTo}
use Rattle.test_keeper.proofs.workload.merge_delta.Given as goal

abbrev pub invariant-loop-i : goal.invariant-loop-i
invariant-loop-i l = (t : Tables) → t.move ≡ [] → FitUpTo l.delta t l.i
