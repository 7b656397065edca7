use Rattle.thes_sql.proofs.UpdateLemmas.{makes_withdrawn}
use Rattle.thes_sql.proofs.writes.withdraw.Goals as goal

pub returns-clause-does : goal.returns-clause-does
returns-clause-does g c clean inside =
    makes_withdrawn c.args.n _ _ _
    (rw (c.params-to_sql.ensures, c.get.ensures.value) at (c.execute.ensures.runs clean inside))
