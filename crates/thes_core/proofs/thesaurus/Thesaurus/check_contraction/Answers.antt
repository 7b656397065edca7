use Rattle.std.proofs.Common.{[], subst}
use Rattle.thes_base.specs.Links.{Holds, links_after_merge, IsFirstBroken}
use Rattle.thes_links.specs.GraphView.{CountedGraphView, is_marked}
use Rattle.thes_core.proofs.RequestCheckLemmas.{joined_row}
use Rattle.thes_core.proofs.thesaurus.Thesaurus.check_contraction.Goals as goal

pub returns : goal.returns
returns c = joined_row c.args.self.now [] c.requires.kept c.args.source c.args.target c.in_ok-answer.answer
    (subst (λ (w : CountedGraphView). IsFirstBroken
    (Holds (links_after_merge (is_marked w.net) c.args.source c.args.target w.net.links)) c.in_ok-answer.answer)
    c.walk-walk.ensures c.in_ok-answer.ensures.first)
