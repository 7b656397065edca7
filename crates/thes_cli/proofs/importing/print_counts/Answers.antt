use Rattle.std.proofs.Common.{◌∙◌, Bool, ℕ, List, subst, sym}
use Rattle.thes_command_line.specs.Printing.{Prints}
use Rattle.thes_cli.specs.Importing.{PrintsCounts}
use Rattle.thes_cli.proofs.importing.print_counts.Goals as goal

pub returns-then-prints_it : goal.returns-then-prints_it
returns-then-prints_it g c =
    subst (λ (prints_it : Bool). PrintsCounts g.E.Write.contents prints_it c.args.errors.now c.print_error.new.errors
    c.args.counts) (sym c.if-prints_it.true)
    (subst (λ (text : List ℕ). Prints g.E.Write.contents c.args.errors.now c.print_error.new.errors text)
    (c.as_bytes.ensures.value ∙ c.as_str.ensures.value ∙ c.counts_line-line.ensures) c.print_error.ensures)
