use Rattle.std.proofs.Common.{ap, sym, ◌∙◌}
use Rattle.std.specs.Ordering.{nat_cmp}
use Rattle.std.specs.Cmp.{nat_cmp_total}
use Rattle.std.specs.FinSet.{contains-from_list}
use Rattle.thes_links.specs.GraphView.{GraphView, is_marked}
use Rattle.thes_graph.proofs.CountLemmas.{two_ends_seen}
use Rattle.thes_graph.proofs.graph.Graph.has_marked.Goals as goal

pub returns-clause-outside : goal.returns-clause-outside
returns-clause-outside c =
    c.contains.ensures ∙ sym (contains-from_list {R = nat_cmp} nat_cmp_total c.self.inside.marked.keys c.args.n)
    ∙ ap (λ (net : GraphView). is_marked net c.args.n) c.self.view_is

pub returns-clause-two_ends : goal.returns-clause-two_ends
returns-clause-two_ends c = two_ends_seen c.self.inside.rows c.self.inside.marked.keys c.self.inside.total
    c.self.invariant c.args.self.now c.self.view_is
