use Rattle.thes_cli.proofs.ReadyLemmas.{sizes_found}
use Rattle.thes_cli.proofs.checking.office_sizes.Goals as goal

pub returns : goal.returns
returns g c =
    sizes_found g.K.Keeper.view c.args.office.now c.ready.follows.lender-at-none
    c.ready.result c.in_ok-core.core c.core_sizes.result
    c.ready.follows.holds-at-none c.in_ok-core.was c.core_sizes.ensures
