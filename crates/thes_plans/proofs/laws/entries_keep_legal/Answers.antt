use Rattle.thes_plans.proofs.EntryLemmas.{entries_keep_legal}
use Rattle.thes_plans.proofs.laws.entries_keep_legal.Goals as goal

pub returns : goal.returns
returns c = entries_keep_legal
