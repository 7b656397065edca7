use Rattle.thes_tables.proofs.ChangeLawLemmas.{changes_of_request_lead}
use Rattle.thes_tables.proofs.laws.changes_lead.Goals as goal

pub returns : goal.returns
returns c = changes_of_request_lead
