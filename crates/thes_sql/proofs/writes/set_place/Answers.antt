use Rattle.thes_sql.proofs.UpdateLemmas.{makes_placed}
use Rattle.thes_sql.proofs.writes.set_place.Goals as goal

pub returns-clause-does : goal.returns-clause-does
returns-clause-does g c clean inside =
    makes_placed c.args.n c.args.place _ _ _
    (rw (c.params-to_sql.ensures, c.params-to_sql-2.ensures, c.get.ensures.value, c.get-2.ensures.value)
    at (c.execute.ensures.runs clean inside))
