use Rattle.std.proofs.Common.{[], subst}
use Rattle.thes_base.specs.Links.{normal_form}
use Rattle.thes_walks.specs.EditChecks.{checks_of_add}
use Rattle.thes_links.specs.GraphView.{CountedGraphView, is_marked}
use Rattle.thes_core.proofs.RequestCheckLemmas.{held_row}
use Rattle.thes_core.proofs.thesaurus.Thesaurus.check_link_fits.Goals as goal

pub returns : goal.returns
returns c = held_row c.args.self.now [] c.requires.kept c.args.link.now c.in_ok-answer.answer
    (subst (λ (w : CountedGraphView). checks_of_add w.net.links (normal_form (is_marked w.net) c.args.link.now)
    c.in_ok-answer.answer) c.walk-walk.ensures c.in_ok-answer.ensures.answer)
