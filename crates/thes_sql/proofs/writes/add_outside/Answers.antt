use Rattle.std.proofs.Common.{rules}
use Rattle.thes_sql.proofs.InsertLemmas.{makes_outside}
use Rattle.thes_sql.proofs.writes.add_outside.Goals as goal

pub returns-clause-does : goal.returns-clause-does
returns-clause-does g c clean inside =
    makes_outside c.args.n c.args.iri.now (search rules) c.outside_values.ensures.spelled _ _ _
    (rw c.outside_values.ensures.cells at (c.execute.ensures.runs clean inside))
