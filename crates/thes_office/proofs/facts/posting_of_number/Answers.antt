use Rattle.std.proofs.Common.{arith}
use Rattle.std.proofs.lemmas.Result.{IfOk-weaker}
use Rattle.thes_plan_postings.proofs.PlanPostingLemmas.{numbered_map}
use Rattle.thes_office.proofs.facts.posting_of_number.Goals as goal

pub returns-clause-in_tables : goal.returns-clause-in_tables
returns-clause-in_tables g c = grind (arith, IfOk-weaker, numbered_map)
