use Rattle.std.proofs.lemmas.Result.{IfOk-weaker}
use Rattle.thes_sql.proofs.OutcomeTextLemmas.{link_row_is_query, link_found}
use Rattle.thes_sql.proofs.outcome.has_link.Goals as goal

pub has_row-requires : goal.has_row-requires
has_row-requires g c = link_row_is_query

pub returns-clause-shows : goal.returns-clause-shows
returns-clause-shows g c clean = IfOk-weaker c.has_row.result _ _
    (λ found answered t keeps. link_found c.args.link.now _ _ found t keeps answered)
    (rw c.link_values.ensures at (c.has_row.ensures.answers clean))
