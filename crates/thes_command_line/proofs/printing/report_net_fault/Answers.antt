use Rattle.std.proofs.Common.{ℕ, List, subst}
use Rattle.thes_command_line.specs.Printing.{Prints}
use Rattle.thes_command_line.proofs.printing.report_net_fault.Goals as goal

pub returns-clause-line : goal.returns-clause-line
returns-clause-line g c =
    subst (λ (text : List ℕ). Prints g.E.Write.contents c.args.errors.now c.print_error.new.errors text)
    c.as_bytes.ensures.value c.print_error.ensures
