use Rattle.thes_sql.proofs.InsertLemmas.{makes_label}
use Rattle.thes_sql.proofs.writes.add_label.Goals as goal

pub returns-clause-does : goal.returns-clause-does
returns-clause-does g c clean inside =
    makes_label c.args.row.now c.label_values.ensures.spelled _ _ _
    (rw c.label_values.ensures.cells at (c.execute.ensures.runs clean inside))
