use Rattle.thes_sql.proofs.MigrationStepLemmas.{does_drop}
use Rattle.thes_sql.proofs.migrate.drop_copied.Goals as goal

pub returns-clause-does : goal.returns-clause-does
returns-clause-does g c clean inside = does_drop _ _ _ (c.execute.ensures.runs clean inside)
