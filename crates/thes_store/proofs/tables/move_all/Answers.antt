use Rattle.std.proofs.Common.{arith}
use Rattle.std.proofs.lemmas.Grind.{common_steps}
use Rattle.thes_store.proofs.BulkMoveLemmas.{moved_at_positions, moved_none}
use Rattle.thes_store.proofs.tables.move_all.Goals as goal

pub returns-in-Some-clause-items : goal.returns-in-Some-clause-items
returns-in-Some-clause-items c = grind (arith, common_steps, moved_at_positions)

pub returns-in_default-clause-items : goal.returns-in_default-clause-items
returns-in_default-clause-items c = grind (arith, common_steps, moved_none)
