use Rattle.std.proofs.Common.{refl}
use Rattle.thes_jobs.specs.Opening.{unopened}
use Rattle.thes_jobs.proofs.opening.open_in_file.Goals as goal

pub returns-clause-opens : goal.returns-clause-opens
returns-clause-opens g c = (refl, unopened c.in-Err.ensures.opens refl)
