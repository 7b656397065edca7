use Rattle.std.proofs.Common.{subst}
use Rattle.thes_base.specs.Links.{Holds}
use Rattle.thes_links.specs.Reading.{HaveTwoEnds}
use Rattle.thes_links.specs.GraphView.{CountedGraphView}
use Rattle.thes_graph.proofs.IndexLemmas.{IsRow-links_at}
use Rattle.thes_graph.proofs.graph.WalkLinks.part.Goals as goal

pub returns-clause-row : goal.returns-clause-row
returns-clause-row c = record {
  two_ends = subst (λ (w : CountedGraphView). HaveTwoEnds (Holds w.net.links)) c.self.view_is c.part_at.ensures.two_ends;
  listing = IsRow-links_at c.args.self.now.net.links c.args.node;
}
