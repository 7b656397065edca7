use Rattle.std.proofs.Common.{arith}
use Rattle.std.proofs.lemmas.Grind.{common_steps}
use Rattle.thes_store.proofs.SinkLemmas.{one_sink_row}
use Rattle.thes_store.proofs.row_encoding.yield_row.Goals as goal

pub returns-clause-yields : goal.returns-clause-yields
returns-clause-yields g c = grind (arith, common_steps, one_sink_row)
