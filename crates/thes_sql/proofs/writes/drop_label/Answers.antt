use Rattle.thes_sql.proofs.UpdateLemmas.{makes_label_gone}
use Rattle.thes_sql.proofs.writes.drop_label.Goals as goal

pub returns-clause-does : goal.returns-clause-does
returns-clause-does g c clean inside =
    makes_label_gone c.args.row.now _ _ _ (rw c.label_values.ensures.cells at (c.execute.ensures.runs clean inside))
