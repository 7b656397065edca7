use Rattle.thes_sql.proofs.InsertLemmas.{makes_posting}
use Rattle.thes_sql.proofs.writes.add_posting.Goals as goal

pub returns-clause-does : goal.returns-clause-does
returns-clause-does g c clean inside =
    makes_posting c.args.row.now c.posting_values.ensures.spelled _ _ _
    (rw c.posting_values.ensures.cells at (c.execute.ensures.runs clean inside))
