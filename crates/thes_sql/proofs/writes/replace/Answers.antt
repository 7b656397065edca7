use Rattle.thes_sql.proofs.UpdateLemmas.{makes_replaced}
use Rattle.thes_sql.proofs.writes.replace.Goals as goal

pub returns-clause-does : goal.returns-clause-does
returns-clause-does g c clean inside =
    makes_replaced c.args.n c.args.by _ _ _
    (rw (c.params-to_sql.ensures, c.params-to_sql-2.ensures, c.get.ensures.value, c.get-2.ensures.value)
    at (c.execute.ensures.runs clean inside))
