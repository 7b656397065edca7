use Rattle.thes_sql.proofs.InsertLemmas.{makes_link}
use Rattle.thes_sql.proofs.writes.add_link.Goals as goal

pub returns-clause-does : goal.returns-clause-does
returns-clause-does g c clean inside =
    makes_link c.args.link.now _ _ _ (rw c.link_values.ensures at (c.execute.ensures.runs clean inside))
