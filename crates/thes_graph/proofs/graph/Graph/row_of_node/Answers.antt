use Rattle.std.proofs.Common.{◌∙◌}
use Rattle.thes_graph.proofs.CountLemmas.{normal_seen, row_seen, two_ends_seen}
use Rattle.thes_graph.proofs.graph.Graph.row_of_node.Goals as goal

pub returns-clause-row : goal.returns-clause-row
returns-clause-row c = c.at.ensures ∙ row_seen c.self.inside.rows c.self.inside.marked.keys c.self.inside.total
    c.self.invariant c.args.self.now c.self.view_is c.args.n

pub returns-clause-two_ends : goal.returns-clause-two_ends
returns-clause-two_ends c = two_ends_seen c.self.inside.rows c.self.inside.marked.keys c.self.inside.total
    c.self.invariant c.args.self.now c.self.view_is

pub returns-clause-normal : goal.returns-clause-normal
returns-clause-normal c = normal_seen c.self.inside.rows c.self.inside.marked.keys c.self.inside.total c.self.invariant
    c.args.self.now c.self.view_is
