use Rattle.std.proofs.Common.{◌∙◌}
use Rattle.thes_graph.proofs.LookUpLemmas.{lookup_at_node}
use Rattle.thes_graph.proofs.graph.Graph.holds.Goals as goal

pub returns-clause-holds : goal.returns-clause-holds
returns-clause-holds c =
    c.is_ok.ensures.value
    ∙ lookup_at_node c.args.self.now.links c.emptier_end-end.result c.args.link.now c.row_of_node.result.now
    c.sided_link_of.result c.binary_search.result c.emptier_end-end.ensures c.row_of_node.ensures.row
    c.sided_link_of.ensures
    c.binary_search.ensures.bound c.binary_search.ensures.position

pub returns-clause-two_ends : goal.returns-clause-two_ends
returns-clause-two_ends c = c.row_of_node.ensures.two_ends
