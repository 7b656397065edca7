use Rattle.thes_sql.proofs.MigrationStepLemmas.{does_copy}
use Rattle.thes_sql.proofs.migrate.copy_links.Goals as goal

pub returns-clause-does : goal.returns-clause-does
returns-clause-does g c clean inside = does_copy _ _ _ (c.execute.ensures.runs clean inside)
