use Rattle.thes_load_rules.proofs.VerdictByTableLemmas.{verdict_by_table}
use Rattle.thes_load_rules.proofs.laws.tables_checked_in_turn.Goals as goal

pub returns : goal.returns
returns c = verdict_by_table
