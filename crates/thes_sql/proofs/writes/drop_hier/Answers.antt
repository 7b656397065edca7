use Rattle.thes_sql.proofs.UpdateLemmas.{makes_hier_gone}
use Rattle.thes_sql.proofs.writes.drop_hier.Goals as goal

pub returns-clause-does : goal.returns-clause-does
returns-clause-does g c clean inside =
    makes_hier_gone c.args.row.now _ _ _ (rw c.hier_values.ensures at (c.execute.ensures.runs clean inside))
