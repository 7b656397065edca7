use Rattle.std.proofs.Common.{refl}
use Rattle.thes_command_line.proofs.early_exit.exit_early.Goals as goal
use Rattle.thes_command_line.proofs.early_exit.exit_early.Goals.{in-Usage, in-NotText, in-BadForm, in-OutOfMemory}

pub returns : goal.returns
returns g c =
    rw c.status.ensures
    (elim c.match-early_exit.branch [
      | in-Usage w ↦ rw (w.in-Usage.is, w.errors-is)
          (rw (← w.as_bytes-in-Usage.ensures.value) w.print_error.ensures, refl, refl)
      | in-NotText w ↦ rw (w.in-NotText.is, w.errors-is)
          (rw (← w.as_bytes-in-NotText.ensures.value) w.print_error-in-NotText.ensures, refl, refl)
      | in-BadForm w ↦ rw (w.in-BadForm.is, w.errors-is) (w.report_form_fault.ensures, refl, refl)
      | in-OutOfMemory w ↦ rw (w.in-OutOfMemory.is, w.errors-is) (w.report_fault.ensures.line, refl, refl)
    ])
