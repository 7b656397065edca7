use Rattle.std.proofs.Common.{arith}
use Rattle.std.proofs.lemmas.Grind.{common_steps}
use Rattle.std.proofs.lemmas.List.{map-append}
use Rattle.thes_store.proofs.BulkMoveLemmas.{changed_append}
use Rattle.thes_store.proofs.tables.move_at_positions.Goals as goal

pub loop-position-preserved : goal.loop-position-preserved
loop-position-preserved c = grind (arith, common_steps, map-append, changed_append)
