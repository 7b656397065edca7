use Rattle.std.proofs.lemmas.Result.{IfOk-weaker}
use Rattle.thes_sql.proofs.OutcomeTextLemmas.{resource_row_is_query, resource_found}
use Rattle.thes_sql.proofs.outcome.has_resource.Goals as goal

pub has_row-requires : goal.has_row-requires
has_row-requires g c = resource_row_is_query

pub returns-clause-shows : goal.returns-clause-shows
returns-clause-shows g c clean = IfOk-weaker c.has_row.result _ _
    (λ found answered t keeps. resource_found c.args.n _ _ found t keeps answered)
    (rw (c.params-to_sql.ensures, c.get.ensures.value) at (c.has_row.ensures.answers clean))
