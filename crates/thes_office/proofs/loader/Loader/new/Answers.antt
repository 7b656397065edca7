use Rattle.std.proofs.Common.{refl}
use Rattle.thes_load_rows.specs.Progress.{raw_without_rows}
use Rattle.thes_office.proofs.loader.Loader.new.Goals as goal

pub invariant_of-result : goal.invariant_of-result
invariant_of-result c = λ unset. (raw_without_rows, (refl, (refl, (refl, (refl, (refl, (refl, (refl, refl))))))))
