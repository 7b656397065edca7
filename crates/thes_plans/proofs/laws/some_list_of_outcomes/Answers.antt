use Rattle.thes_plans.proofs.EntryLemmas.{some_list_of_outcomes}
use Rattle.thes_plans.proofs.laws.some_list_of_outcomes.Goals as goal

pub returns : goal.returns
returns c = some_list_of_outcomes
