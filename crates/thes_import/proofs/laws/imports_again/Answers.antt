use Rattle.thes_import.proofs.RepeatedImportLemmas.{imports_again}
use Rattle.thes_import.proofs.laws.imports_again.Goals as goal

pub returns : goal.returns
returns c = imports_again
