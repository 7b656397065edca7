use Rattle.thes_plans.proofs.EntryLemmas.{one_list_of_outcomes}
use Rattle.thes_plans.proofs.laws.one_list_of_outcomes.Goals as goal

pub returns : goal.returns
returns c = one_list_of_outcomes
