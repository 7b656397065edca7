use Rattle.std.proofs.Common.{is_some, refl}
use Rattle.thes_jobs.proofs.OpeningLemmas.{migrates}
use Rattle.thes_jobs.proofs.opening.open_in_memory.Goals as goal

pub returns-in-Ok-Some-clause-opens : goal.returns-in-Ok-Some-clause-opens
returns-in-Ok-Some-clause-opens g c = record {
  does = rw c.in-Ok-Some.field-0-is at c.in-Ok-Some.ensures;
  file = refl;
  setting = refl;
  listens = c.screen_of-progress.ensures;
}

pub returns-in-Ok-None-clause-opens : goal.returns-in-Ok-None-clause-opens
returns-in-Ok-None-clause-opens g c = (
  migrates _ _ c.args.task (is_some c.screen_of-progress.result)
      (rw c.in-Ok-None.field-0-is at c.in-Ok-None.ensures),
  refl,
)

pub returns-in-Err-clause-opens : goal.returns-in-Err-clause-opens
returns-in-Err-clause-opens g c = ((is_some c.screen_of-progress.result, c.in-Err.ensures), refl, refl)
