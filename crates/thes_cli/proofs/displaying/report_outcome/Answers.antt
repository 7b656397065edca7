use Rattle.std.proofs.Common.{Ok, refl, subst, sym}
use Rattle.thes_display.specs.declared.writing.DisplayOutcome.{DisplayOutcome}
use Rattle.thes_cli.specs.Displaying.{EndsDisplay}
use Rattle.thes_cli.proofs.displaying.report_outcome.Goals as goal

pub returns-in-No : goal.returns-in-No
returns-in-No g c =
    subst (λ (shown : DisplayOutcome). EndsDisplay g.E.Write.contents c.args.errors.now c.report_refusal.new.errors
    (Ok shown) 1) (sym c.in-No.is) (c.report_refusal.ensures, refl)
