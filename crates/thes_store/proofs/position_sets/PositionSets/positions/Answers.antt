use Rattle.std.proofs.Common.{arith, rules}
use Rattle.std.proofs.lemmas.Grind.{common_steps}
use Rattle.thes_store.proofs.IndexPositionLemmas.{some_positions, no_positions}
use Rattle.thes_store.proofs.position_sets.PositionSets.positions.Goals as goal

pub returns-in_ok-positions-in-Some : goal.returns-in_ok-positions-in-Some
returns-in_ok-positions-in-Some c = grind (arith, common_steps, some_positions)

pub returns-in-None : goal.returns-in-None
returns-in-None c = no_positions c.args.self.now c.args.n c.new.result.items (search rules) c.new.ensures.items
