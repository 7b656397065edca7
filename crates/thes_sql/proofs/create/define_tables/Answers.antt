use Rattle.thes_sql.proofs.SchemaTextLemmas.{does_define}
use Rattle.thes_sql.proofs.create.define_tables.Goals as goal

pub returns-clause-does : goal.returns-clause-does
returns-clause-does g c clean inside =
    does_define g.S.Store _ _ _ (c.execute_batch.ensures.ran clean)
    (c.execute_batch.ensures.inside clean) inside
