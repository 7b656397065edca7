use Rattle.std.proofs.Common.{arith}
use Rattle.std.proofs.lemmas.Result.{IfOk-weaker}
use Rattle.thes_office.proofs.FactLemmas.{found_key}
use Rattle.thes_office.proofs.facts.posting_of_key.Goals as goal

pub returns-clause-in_tables : goal.returns-clause-in_tables
returns-clause-in_tables g c = grind (arith, IfOk-weaker, found_key)
