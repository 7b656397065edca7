use Rattle.std.proofs.Common.{◌∙◌}
use Rattle.thes_graph.proofs.CountLemmas.{row_seen}
use Rattle.thes_graph.proofs.graph.Graph.row_at.Goals as goal

pub returns : goal.returns
returns c = c.list.ensures ∙ row_seen c.self.inside.rows c.self.inside.marked.keys c.self.inside.total
    c.self.invariant c.args.self.now c.self.view_is c.args.number
