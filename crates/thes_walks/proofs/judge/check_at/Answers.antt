use Rattle.thes_base.specs.Links.{Holds}
use Rattle.thes_links.specs.GraphView.{is_marked}
use Rattle.thes_links.proofs.PivotLemmas.{IsFirstBroken-from_pivot}
use Rattle.thes_walks.proofs.EditCheckLemmas.{CoversNear-held}
use Rattle.thes_walks.proofs.NeighbourhoodLemmas.{check_neighbourhood}
use Rattle.thes_walks.proofs.judge.check_at.Goals as goal

pub returns-clause-first : goal.returns-clause-first
returns-clause-first g c =
    IsFirstBroken-from_pivot (Holds (g.L.Links.net c.args.links.now).links) c.args.pivot c.requires
    c.learn_two_ends.ensures c.in_ok-answer.answer c.in_ok-answer.ensures.first

pub returns-clause-count : goal.returns-clause-count
returns-clause-count g c ns has =
    c.in_ok-answer.ensures.count ns
    (CoversNear-held (g.L.Links.net c.args.links.now).links c.args.pivot ns
    (check_neighbourhood (is_marked (g.L.Links.net c.args.links.now)) (g.L.Links.net c.args.links.now).links ns
    c.args.pivot has))
