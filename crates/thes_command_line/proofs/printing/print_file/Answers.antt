use Rattle.std.proofs.Common.{◌++◌, ◌∙◌, ap₂, ℕ, List, subst, false}
use Rattle.thes_command_line.specs.Printing.{HasPrinted, file_end}
use Rattle.thes_command_line.proofs.PrintLemmas.{both, cut_short}
use Rattle.thes_command_line.proofs.printing.print_file.Goals as goal

pub returns-then-print_both : goal.returns-then-print_both
returns-then-print_both g c =
    subst (λ (text : List ℕ). HasPrinted g.E.Write.contents c.args.errors.now c.print.new.writer text c.print.result)
    (ap₂ (λ (a b : List ℕ). a ++ b) (ap₂ (λ (a b : List ℕ). a ++ b) c.as_bytes.ensures.value c.as_bytes-2.ensures.value)
    (c.as_bytes-then-print_both.ensures.value ∙ c.as_str.ensures.value ∙ c.file_end-end.ensures))
    (both g.E.Write.contents c.args.errors.now c.print_both.new.writer c.print.new.writer
    (c.as_bytes.result.now ++ c.as_bytes-2.result.now) c.as_bytes-then-print_both.result.now c.print.result
    (rw c.if-print_both.true at c.print_both.ensures) c.print.ensures)

pub returns-else-print_both : goal.returns-else-print_both
returns-else-print_both g c =
    rw c.if-print_both.false
    (subst (λ (text : List ℕ). HasPrinted g.E.Write.contents c.args.errors.now c.print_both.new.writer
    (text ++ file_end c.args.trouble) false)
    (ap₂ (λ (a b : List ℕ). a ++ b) c.as_bytes.ensures.value c.as_bytes-2.ensures.value)
    (cut_short g.E.Write.contents c.args.errors.now c.print_both.new.writer
    (c.as_bytes.result.now ++ c.as_bytes-2.result.now) (file_end c.args.trouble)
    (rw c.if-print_both.false at c.print_both.ensures)))
