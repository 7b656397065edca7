use Rattle.thes_graph.proofs.PartLemmas.{part_found}
use Rattle.thes_graph.proofs.graph.Graph.part_at.Goals as goal

pub returns-clause-part : goal.returns-clause-part
returns-clause-part c =
    part_found c.args.self.now.links c.args.n c.args.side c.row_of_node-row.result.now c.number-number.result
    c.count_before-from.result c.count_until-to.result
    c.row_of_node-row.ensures.row c.number-number.ensures c.count_until-to.ensures.bound
    c.count_before-from.ensures.place c.count_until-to.ensures.place
