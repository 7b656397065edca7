use Rattle.thes_export.proofs.ExportLemmas.{export_read}
use Rattle.thes_export.proofs.laws.reads_exports.Goals as goal

pub returns : goal.returns
returns c base s text legal export = export_read base s legal text export
