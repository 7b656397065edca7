use Rattle.thes_import.proofs.OneImportLemmas.{one_import}
use Rattle.thes_import.proofs.laws.one_import.Goals as goal

pub returns : goal.returns
returns g c = one_import g.K.Keeper.view g.L.Keeper.view
