use Rattle.std.proofs.Common.{◌∙◌, ◌++◌, ℕ, List, Option, subst, inr}
use Rattle.thes_base.specs.declared.fault.PipeFault.TheVariants as faults
use Rattle.thes_command_line.specs.Printing.{Prints, fault_line, file_line}
use Rattle.thes_command_line.specs.declared.trouble.StoreTrouble.{StoreTrouble}
use Rattle.thes_command_line.proofs.PrintLemmas.{both, cut_short, either}
use Rattle.thes_command_line.proofs.printing.report_in_file.Goals as goal

pub returns-then-print_file-clause-reports : goal.returns-then-print_file-clause-reports
returns-then-print_file-clause-reports g c =
    let file = file_line c.args.file.now c.trouble_of_fault-trouble.result in
    subst (λ (trouble : Option StoreTrouble). Prints g.E.Write.contents c.args.errors.now c.print.new.writer
    (file_line c.args.file.now trouble ++ fault_line (faults.Fault c.args.fault))) c.trouble_of_fault-trouble.ensures
    (subst (λ (text : List ℕ). Prints g.E.Write.contents c.args.errors.now c.print.new.writer (file ++ text))
    (c.as_bytes.ensures.value ∙ c.as_str.ensures.value ∙ c.fault_line-line.ensures)
    (either g.E.Write.contents c.args.errors.now c.print.new.writer (file ++ c.as_bytes.result.now) c.print.result
    (both g.E.Write.contents c.args.errors.now c.print_file.new.errors c.print.new.writer file c.as_bytes.result.now
    c.print.result (rw c.if-print_file.true at c.print_file.ensures) c.print.ensures)))

pub returns-else-print_file-clause-reports : goal.returns-else-print_file-clause-reports
returns-else-print_file-clause-reports g c =
    subst (λ (trouble : Option StoreTrouble). Prints g.E.Write.contents c.args.errors.now c.print_file.new.errors
    (file_line c.args.file.now trouble ++ fault_line (faults.Fault c.args.fault))) c.trouble_of_fault-trouble.ensures
    (inr (cut_short g.E.Write.contents c.args.errors.now c.print_file.new.errors
    (file_line c.args.file.now c.trouble_of_fault-trouble.result)
    (fault_line (faults.Fault c.args.fault)) (rw c.if-print_file.false at c.print_file.ensures)))
