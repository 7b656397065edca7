use Rattle.std.proofs.Common.{sym}
use Rattle.thes_service.specs.Service.{IsDisplayed}
use Rattle.thes_service.proofs.StateViewLemmas.{result_ready}
use Rattle.thes_service.proofs.office_handler.OfficeHandlerService.display.Goals as goal

pub returns : goal.returns
returns g c =
    let wanted = c.args.wanted.now in
    rw (sym c.self.view_is)
    (result_ready g.K.Keeper.view (λ base. IsDisplayed wanted.kind wanted.scheme wanted.tag.now)
    c.self.inside.office c.ready.follows.lender-at-none c.ready.result c.in_ok-core.core
    c.in_ok-display_of_core.field-0
    c.ready.follows.holds-at-none c.in_ok-core.was (λ s holds legal. c.in_ok-display_of_core.ensures s holds))
