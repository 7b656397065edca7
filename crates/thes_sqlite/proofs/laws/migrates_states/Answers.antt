use Rattle.thes_sqlite.proofs.MigrationLemmas.{migrates_states}
use Rattle.thes_sqlite.proofs.laws.migrates_states.Goals as goal

pub returns : goal.returns
returns g c = migrates_states g.S.Store
