use Rattle.thes_export.proofs.ExportLemmas.{one_text}
use Rattle.thes_export.proofs.laws.one_export.Goals as goal

pub returns : goal.returns
returns c = one_text
