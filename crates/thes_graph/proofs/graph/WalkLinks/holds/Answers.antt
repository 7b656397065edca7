use Rattle.std.proofs.Common.{subst}
use Rattle.thes_base.specs.Links.{Holds}
use Rattle.thes_links.specs.Reading.{HaveTwoEnds}
use Rattle.thes_links.specs.GraphView.{CountedGraphView}
use Rattle.thes_graph.proofs.graph.WalkLinks.holds.Goals as goal

pub returns-clause-two_ends : goal.returns-clause-two_ends
returns-clause-two_ends c = subst (λ (w : CountedGraphView). HaveTwoEnds (Holds w.net.links)) c.self.view_is
    c.holds.ensures.two_ends
