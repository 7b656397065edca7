-- The work of each task, and the report of a file or socket that can't be opened.
use Rattle.std.specs.Prelude.{◌≡◌, ◌⊎◌, Bool, IfErr, Option, Some, None, Result, Ok, Err}
use Rattle.std.specs.Result.{result_map_both}
use Rattle.std.specs.declared.io.Error.{Error}
use Rattle.thes_command_line.specs.declared.arguments.DisplayOptions.{DisplayOptions}
use Rattle.thes_command_line.specs.declared.arguments.ServeOptions.{ServeOptions}
use Rattle.thes_command_line.specs.declared.arguments.Task.{Task}
use Rattle.thes_command_line.specs.declared.arguments.Task.TheVariants as tasks
use Rattle.thes_command_line.specs.declared.start_failure.OpenFailure.{OpenFailure}
use Rattle.thes_command_line.specs.declared.start_failure.OpenFailure.TheVariants.{File, Socket, Connection}
use Rattle.thes_requests.specs.declared.request.Display.{Display}
use Rattle.thes_requests.specs.declared.request.Display.TheVariants as displays
use Rattle.thes_jobs.specs.declared.work.PlannedWork.{PlannedWork}
use Rattle.thes_jobs.specs.declared.work.PlannedWork.TheVariants as planned
use Rattle.thes_jobs.specs.declared.work.Work.{Work}
use Rattle.thes_jobs.specs.declared.work.Work.TheVariants.{Script, Output}
use Rattle.thes_jobs.specs.declared.work.OutputWork.TheVariants as output

-- The work of writing a display.
abbrev pub display_work : {F L : Type 0} → Display → DisplayOptions → Work F L
display_work display options = Output (output.Display display options)

-- The work of each task, before any file or socket is opened.
abbrev pub planned_work : {F L : Type 0} → Task → PlannedWork F L
planned_work (tasks.Script options) = planned.Ready (Script options)
planned_work tasks.Check = planned.Ready (Output output.Check)
planned_work tasks.Export = planned.Ready (Output output.Export)
planned_work (tasks.Alphabetical options) = planned.Ready (display_work displays.Alphabetical options)
planned_work (tasks.Hierarchical options) = planned.Ready (display_work displays.Hierarchical options)
planned_work (tasks.Import file) = planned.Import file
planned_work (tasks.Serve options) = planned.Serve options
planned_work tasks.Migrate = planned.Migrate

-- The work of importing a posting file, or the failure to open the file; the Boolean says whether to print the counts
-- of its rows.
abbrev pub import_work : {F L : Type 0} → Result F Error → Bool → Result (Work F L) OpenFailure
import_work (Ok file) prints_it = Ok (Output (output.Import file prints_it))
import_work (Err error) prints_it = Err File

-- The work of serving a socket with these options, or the failure to open the socket.
abbrev pub serve_work : {F L : Type 0} → Result L OpenFailure → ServeOptions → Result (Work F L) OpenFailure
serve_work (Ok listener) options =
    Ok (Output (output.Serve (record {
      listener = listener;
      port = options.port;
      count = options.count;
      plans = options.plans;
    })))
serve_work (Err unopened) options = Err unopened

-- The failure is one of opening a socket.
abbrev pub IsSocketFailure : OpenFailure → Type 0
IsSocketFailure failure = (failure ≡ Socket) ⊎ (failure ≡ Connection)

-- The planned work, with its posting file or socket opened if it has one, or the failure to open that; None for a
-- migration. The Boolean says whether an import prints the counts of its rows.
abbrev pub OpensPlanned : {F L : Type 0} → PlannedWork F L → Bool → Result (Option (Work F L)) OpenFailure → Type 0
OpensPlanned {F} {L} (planned.Ready work) prints_it result = result ≡ Ok (Some work)
OpensPlanned {F} {L} (planned.Import file) prints_it result =
    (opened : Result F Error) × (result ≡ result_map_both Some (λ failure. failure) (import_work opened prints_it))
OpensPlanned {F} {L} (planned.Serve options) prints_it result =
    (opened : Result L OpenFailure) × IfErr opened IsSocketFailure
    × (result ≡ result_map_both Some (λ failure. failure) (serve_work opened options))
OpensPlanned {F} {L} planned.Migrate prints_it result = result ≡ Ok None
