use Rattle.std.proofs.Common.{◌∙◌, List, ℕ, Result, inl, subst, sym}
use Rattle.thes_base.specs.declared.fault.Fault.{Fault}
use Rattle.thes_core.specs.declared.reading.Sizes.{Sizes}
use Rattle.thes_cli.specs.Checking.{ReportsSizes}
use Rattle.thes_command_line.specs.Printing.{PrintsText}
use Rattle.thes_cli.proofs.checking.report_sizes.Goals as goal

pub returns-in-Ok-sizes_line : goal.returns-in-Ok-sizes_line
returns-in-Ok-sizes_line g c =
    subst (λ (sizes : Result Sizes Fault). ReportsSizes g.W.Write.contents g.E.Write.contents c.args.output.now
    c.print_out.new.output c.args.errors.now c.print_out.new.errors sizes c.print_out.result)
    (sym c.in-Ok.is)
    (inl (subst (λ (text : List ℕ). PrintsText g.W.Write.contents g.E.Write.contents c.args.output.now
    c.print_out.new.output c.args.errors.now c.print_out.new.errors text c.print_out.result)
    (c.as_bytes.ensures.value ∙ c.in-Ok-sizes_line.ensures) c.print_out.ensures))
