use Rattle.std.proofs.Common.{arith}
use Rattle.std.proofs.lemmas.Grind.{common_steps}
use Rattle.thes_store.proofs.PositionListLemmas.{kept_after_append, listed_after_append}
use Rattle.thes_store.proofs.position_lists.RowPositions.push.Goals as goal

pub returns-clause-keeps : goal.returns-clause-keeps
returns-clause-keeps c = grind (arith, common_steps, kept_after_append)

pub returns-clause-ok : goal.returns-clause-ok
returns-clause-ok c = listed_after_append c.args.position _ _ c.append.result c.append.ensures.ok
