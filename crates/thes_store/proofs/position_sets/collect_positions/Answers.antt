use Rattle.std.proofs.Common.{rules}
use Rattle.std.proofs.lemmas.Iterator.Adapters.{items_from_extend}
use Rattle.std.proofs.lemmas.Iterator.Consumers.{YieldsList-from_copied, YieldsList-from_rest}
use Rattle.thes_store.proofs.position_sets.collect_positions.Goals as goal

pub returns-clause-positions : goal.returns-clause-positions
returns-clause-positions c =
    let h = items_from_extend c.extend.result c.extend.ensures.ran
    (YieldsList-from_copied (YieldsList-from_rest c.args.set.now.keys cc)) in search rules
