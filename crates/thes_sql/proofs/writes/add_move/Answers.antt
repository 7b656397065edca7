use Rattle.thes_sql.proofs.InsertLemmas.{makes_move}
use Rattle.thes_sql.proofs.writes.add_move.Goals as goal

pub returns-clause-does : goal.returns-clause-does
returns-clause-does g c clean inside =
    makes_move c.args.row.now c.move_values.ensures.numbered _ _ _
    (rw c.move_values.ensures.cells at (c.execute.ensures.runs clean inside))
