use Rattle.std.proofs.Common.{arith}
use Rattle.thes_load_rows.proofs.TurnLemmas.{in_turn, stopped_follows, stopped_of_rows}
use Rattle.thes_load_rows.proofs.turns.stage_after_stop.Goals as goal

pub returns-in-Stopped : goal.returns-in-Stopped
returns-in-Stopped c = grind (arith, in_turn, stopped_follows, stopped_of_rows)
