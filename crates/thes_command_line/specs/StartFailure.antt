-- The reports of the reasons why the work of a job doesn't begin.
use Rattle.std.specs.Prelude.{ℕ, Option, string_bytes}
use Rattle.thes_base.specs.Types.{Bytes}
use Rattle.thes_base.specs.declared.pipe.Pipe.{Pipe}
use Rattle.thes_command_line.specs.EarlyExit.{ExitsEarly}
use Rattle.thes_command_line.specs.Printing.{PrintsError, file_fault_lines, open_failure_line}
use Rattle.thes_command_line.specs.declared.start_failure.StartFailure.{StartFailure}
use Rattle.thes_command_line.specs.declared.start_failure.StartFailure.TheVariants.{EarlyExit, Unopened, InStore}

-- An early exit is reported as `ExitsEarly` says; a file, socket or store that can't be opened is reported on standard
-- error, with status 3.
module _ {W E : Type 0} (out : W → Option Bytes) (err : E → Option Bytes)
    (output output' : Pipe W) (errors errors' : Pipe E) where
  abbrev pub ReportsStartFailure : StartFailure → ℕ → Type 0
  ReportsStartFailure (EarlyExit early_exit) status = ExitsEarly out err output output' errors errors' early_exit status
  ReportsStartFailure (Unopened unopened) status =
      PrintsError out err output output' errors errors' (open_failure_line unopened) 3 status
  ReportsStartFailure (InStore file trouble fault) status =
      PrintsError out err output output' errors errors' (file_fault_lines (string_bytes file) trouble fault) 3 status
