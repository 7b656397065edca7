use Rattle.std.proofs.Common.{sym, ◌∙◌}
use Rattle.thes_graph.proofs.CountLemmas.{row_seen, two_ends_seen}
use Rattle.thes_graph.proofs.graph.Graph.row_count.Goals as goal

pub returns-clause-none : goal.returns-clause-none
returns-clause-none c = λ n from. sym (row_seen c.self.inside.rows c.self.inside.marked.keys c.self.inside.total
    c.self.invariant c.args.self.now c.self.view_is n) ∙ c.list_count.ensures n from

pub returns-clause-two_ends : goal.returns-clause-two_ends
returns-clause-two_ends c = two_ends_seen c.self.inside.rows c.self.inside.marked.keys c.self.inside.total
    c.self.invariant c.args.self.now c.self.view_is
