use Rattle.std.proofs.Common.{◌∙◌, ℕ, List, subst}
use Rattle.thes_command_line.specs.Printing.{Prints}
use Rattle.thes_command_line.proofs.printing.report_form_fault.Goals as goal

pub returns : goal.returns
returns g c =
    subst (λ (text : List ℕ). Prints g.E.Write.contents c.args.errors.now c.print_error.new.errors text)
    (c.as_bytes.ensures.value ∙ c.as_str.ensures.value ∙ c.form_line.ensures) c.print_error.ensures
