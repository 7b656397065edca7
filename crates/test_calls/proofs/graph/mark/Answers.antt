use Rattle.std.proofs.Common.{subst}
use Rattle.thes_base.specs.Links.{Holds}
use Rattle.thes_links.specs.GraphView.{GraphView}
use Rattle.thes_base.proofs.LinkSetLemmas.{without_node_from}
use Rattle.test_calls.proofs.graph.mark.Goals as goal

pub mark_outside-requires : goal.mark_outside-requires
mark_outside-requires c l held =
    (without_node_from c.no-n.result c.args.graph.now.links l
    (subst (λ (net : GraphView). Holds net.links l) c.drop_all.ensures held)).1
