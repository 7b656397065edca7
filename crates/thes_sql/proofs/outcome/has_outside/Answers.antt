use Rattle.std.proofs.lemmas.Result.{IfOk-weaker}
use Rattle.thes_sql.proofs.OutcomeTextLemmas.{outside_row_is_query, outside_found}
use Rattle.thes_sql.proofs.outcome.has_outside.Goals as goal

pub has_row-requires : goal.has_row-requires
has_row-requires g c = outside_row_is_query

pub returns-clause-shows : goal.returns-clause-shows
returns-clause-shows g c clean = IfOk-weaker c.has_row.result _ _
    (λ found answered t keeps. outside_found c.args.n _ _ found t keeps answered)
    (rw (c.params-to_sql.ensures, c.get.ensures.value) at (c.has_row.ensures.answers clean))
