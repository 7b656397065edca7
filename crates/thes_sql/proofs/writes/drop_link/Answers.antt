use Rattle.thes_sql.proofs.UpdateLemmas.{makes_link_gone}
use Rattle.thes_sql.proofs.writes.drop_link.Goals as goal

pub returns-clause-does : goal.returns-clause-does
returns-clause-does g c clean inside =
    makes_link_gone c.args.link.now _ _ _ (rw c.link_values.ensures at (c.execute.ensures.runs clean inside))
