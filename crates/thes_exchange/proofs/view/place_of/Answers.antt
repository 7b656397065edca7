use Rattle.std.proofs.Common.{sym}
use Rattle.thes_exchange.proofs.ViewLemmas.{led_last}
use Rattle.thes_exchange.proofs.view.place_of.Goals as goal

pub returns-in-Some : goal.returns-in-Some
returns-in-Some c =
    sym (led_last c.args.history.now.first c.args.history.now.moves c.in-Some.step.now
    (rw (← c.as_slice.ensures) (sym c.in-Some.ensures.value)))
