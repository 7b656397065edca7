-- Proves facts about tasks, jobs and preparations, for the functions that open a job.
use Rattle.std.proofs.Common.{◌≡◌, Bool, true, false, IsTrue, Ok, Err, None, Some, refl}
use Rattle.std.specs.Global.{Global}
use Rattle.std.specs.declared.string.String.{String}
use Rattle.thes_command_line.specs.Opening.{preparation_of}
use Rattle.thes_command_line.specs.declared.arguments.Job.{Job}
use Rattle.thes_command_line.specs.declared.arguments.StoreSetting.{StoreSetting}
use Rattle.thes_command_line.specs.declared.arguments.Task.{Task}
use Rattle.thes_command_line.specs.declared.arguments.Task.TheVariants as tasks
use Rattle.thes_command_line.specs.declared.opening.Opening.{Opening}
use Rattle.thes_command_line.specs.declared.opening.Opening.TheVariants.{New, Existing}
use Rattle.thes_command_line.specs.declared.opening.Preparation.TheVariants.{MakeTables}
use Rattle.thes_jobs.specs.PlannedWork.{OpensPlanned, planned_work}
use Rattle.thes_jobs.specs.Opening.{job_in_file}

-- A task for which no work is opened is a migration.
pub migrates : (F L : Type 0) (task : Task) (prints_it : Bool)
    → OpensPlanned {F = F} {L = L} (planned_work task) prints_it (Ok None) → task ≡ tasks.Migrate
migrates F L (tasks.Script options) prints_it h = absurd cc
migrates F L tasks.Check prints_it h = absurd cc
migrates F L tasks.Export prints_it h = absurd cc
migrates F L (tasks.Alphabetical options) prints_it h = absurd cc
migrates F L (tasks.Hierarchical options) prints_it h = absurd cc
migrates F L (tasks.Import file) prints_it (Ok opened, h) = absurd cc
migrates F L (tasks.Import file) prints_it (Err error, h) = absurd cc
migrates F L (tasks.Serve options) prints_it (Ok listener, fails, h) = absurd cc
migrates F L (tasks.Serve options) prints_it (Err failure, fails, h) = absurd cc
migrates F L tasks.Migrate prints_it h = refl

-- A job with this task, this file and this setting is the one that `job_in_file` makes of them.
pub same_job : (job : Job) (task : Task) (file : String Global) (setting : StoreSetting) → task ≡ job.task
    → Some file ≡ job.file → setting ≡ job.setting → job_in_file task file setting ≡ job
same_job job task file setting a b c = rw (a, b, c) refl

-- Tables are made only in a blank database.
pub makes_in_blank : (opening : Opening) (is_blank : Bool) → preparation_of opening is_blank ≡ MakeTables
    → IsTrue is_blank
makes_in_blank New true is = refl
makes_in_blank Existing true is = absurd cc
makes_in_blank opening false is = absurd cc
