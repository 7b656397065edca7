use Rattle.thes_cli.proofs.ReadyLemmas.{sizes_are}
use Rattle.thes_cli.proofs.checking.core_sizes.Goals as goal

pub returns : goal.returns
returns c s holds =
    let held = c.sizes.ensures in
    sizes_are c.sizes.result c.args.core.now s holds held.resources held.labels held.links held.accepted
    held.withdrawn held.moves
