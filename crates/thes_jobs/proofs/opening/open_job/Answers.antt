use Rattle.std.proofs.Common.{◌≡◌, Some, refl, subst}
use Rattle.thes_command_line.specs.declared.arguments.Job.{Job}
use Rattle.thes_jobs.specs.Opening.{OpensJob}
use Rattle.thes_jobs.proofs.OpeningLemmas.{same_job}
use Rattle.thes_jobs.proofs.opening.open_job.Goals as goal

pub returns-in-Some-clause-opens : goal.returns-in-Some-clause-opens
returns-in-Some-clause-opens g c =
    let job = c.in-Ok.field-0 in
    let file : Some c.in-Some.file ≡ job.file = cc in
    rw c.in-Ok.is (subst (λ (job : Job). OpensJob g.D.Engine.Store g.D.Opener.HeldImage.image
    g.D.Databases.keeps job c.open_in_file.result)
    (same_job job job.task c.in-Some.file job.setting refl file refl) c.open_in_file.ensures.opens)
