use Rattle.thes_sql.proofs.MigrationStepLemmas.{does_version}
use Rattle.thes_sql.proofs.migrate.set_version.Goals as goal

pub returns-clause-does : goal.returns-clause-does
returns-clause-does g c clean inside = does_version _ _ _ (c.execute.ensures.runs clean inside)
