use Rattle.std.proofs.Common.{arith}
use Rattle.std.proofs.lemmas.Grind.{common_steps}
use Rattle.thes_sql.proofs.SchemaTextLemmas.{tries_refused}
use Rattle.thes_sql.proofs.create.try_index.Goals as goal

pub returns-in-Err-SqlInputError-clause-does : goal.returns-in-Err-SqlInputError-clause-does
returns-in-Err-SqlInputError-clause-does g c = grind (arith, common_steps, tries_refused)
