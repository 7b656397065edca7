use Rattle.thes_command_line.proofs.PrintLemmas.{both}
use Rattle.thes_command_line.proofs.printing.print_both.Goals as goal

pub returns-then-print : goal.returns-then-print
returns-then-print g c =
    both g.W.Write.contents c.args.writer.now c.print.new.writer c.print-then-print.new.writer c.args.first.now
    c.args.second.now c.print-then-print.result (rw c.if-print.true at c.print.ensures) c.print-then-print.ensures
