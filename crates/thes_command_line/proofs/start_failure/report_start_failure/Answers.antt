use Rattle.std.proofs.Common.{refl}
use Rattle.thes_command_line.proofs.start_failure.report_start_failure.Goals as goal

pub returns-in-InStore : goal.returns-in-InStore
returns-in-InStore g c =
    rw c.in-InStore.is
    (rw (← c.as_str.ensures.value) c.report_in_file.ensures.reports, refl, c.report_in_file.ensures.status)
