use Rattle.std.proofs.Common.{ap, ◌∙◌}
use Rattle.std.specs.FinSet.{len}
use Rattle.thes_links.specs.GraphView.{GraphView}
use Rattle.thes_graph.proofs.graph.Graph.size.Goals as goal

pub returns : goal.returns
returns c = c.self.invariant.total_is ∙ ap (λ (net : GraphView). len net.links) c.self.view_is
