use Rattle.std.proofs.lemmas.Result.{IfOk-weaker}
use Rattle.thes_sql.proofs.OutcomeTextLemmas.{label_row_is_query, label_found}
use Rattle.thes_sql.proofs.outcome.has_label.Goals as goal

pub has_row-requires : goal.has_row-requires
has_row-requires g c = label_row_is_query

pub returns-clause-shows : goal.returns-clause-shows
returns-clause-shows g c clean = IfOk-weaker c.has_row.result _ _
    (λ found answered t keeps. label_found c.args.row.now _ _ found t keeps answered)
    (rw c.label_values.ensures.cells at (c.has_row.ensures.answers clean))
