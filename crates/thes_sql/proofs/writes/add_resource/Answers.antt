use Rattle.thes_sql.proofs.InsertLemmas.{makes_resource}
use Rattle.thes_sql.proofs.writes.add_resource.Goals as goal

pub returns-clause-does : goal.returns-clause-does
returns-clause-does g c clean inside =
    makes_resource c.args.n c.args.resource.now _ _ _
    (rw c.resource_values.ensures at (c.execute.ensures.runs clean inside))
