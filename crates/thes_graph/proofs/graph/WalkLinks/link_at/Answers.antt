use Rattle.std.proofs.Common.{subst}
use Rattle.thes_base.specs.Links.{Holds}
use Rattle.thes_links.specs.Reading.{HaveTwoEnds}
use Rattle.thes_links.specs.GraphView.{CountedGraphView}
use Rattle.thes_graph.proofs.IndexLemmas.{IsRow-links_at}
use Rattle.thes_graph.proofs.graph.WalkLinks.link_at.Goals as goal

pub returns-in-Some-clause-row : goal.returns-in-Some-clause-row
returns-in-Some-clause-row c = record {
  two_ends = subst (λ (w : CountedGraphView). HaveTwoEnds (Holds w.net.links)) c.self.view_is c.nth_at.ensures.two_ends;
  listing = IsRow-links_at c.args.self.now.net.links c.args.node;
}

pub returns-in-None-clause-row : goal.returns-in-None-clause-row
returns-in-None-clause-row c = record {
  two_ends = subst (λ (w : CountedGraphView). HaveTwoEnds (Holds w.net.links)) c.self.view_is c.nth_at.ensures.two_ends;
  listing = IsRow-links_at c.args.self.now.net.links c.args.node;
}
