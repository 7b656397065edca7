use Rattle.thes_command_line.proofs.printing.report_open_failure.Goals as goal

pub returns-in-File-clause-line : goal.returns-in-File-clause-line
returns-in-File-clause-line g c = rw c.in-File.is c.report_fault.ensures.line
