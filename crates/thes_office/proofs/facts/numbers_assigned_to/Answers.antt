use Rattle.std.proofs.Common.{arith}
use Rattle.std.proofs.lemmas.Result.{IfOk-weaker}
use Rattle.thes_office.proofs.FactLemmas.{assigned_numbers}
use Rattle.thes_office.proofs.facts.numbers_assigned_to.Goals as goal

pub returns-clause-in_tables : goal.returns-clause-in_tables
returns-clause-in_tables g c = grind (arith, IfOk-weaker, assigned_numbers)
