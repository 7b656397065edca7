use Rattle.thes_tables.proofs.OldRowLemmas.{migration_law}
use Rattle.thes_tables.proofs.laws.migration_keeps_state.Goals as goal

pub returns : goal.returns
returns c = migration_law
