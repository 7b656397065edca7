use Rattle.std.proofs.Common.{subst}
use Rattle.thes_base.specs.declared.data.Link.{Link}
use Rattle.thes_base.specs.Neighbourhood.{Add}
use Rattle.thes_walks.specs.EditChecks.{AreFewVisits}
use Rattle.thes_links.specs.GraphView.{is_marked}
use Rattle.thes_walks.proofs.NeighbourhoodLemmas.{add_neighbourhood}
use Rattle.thes_walks.proofs.judge.judge_add.Goals as goal

pub returns-clause-count : goal.returns-clause-count
returns-clause-count g c =
    subst (λ (new : Link). AreFewVisits (is_marked (g.L.Links.net c.args.links.now)) (Add new)
    (g.L.Links.net c.args.links.now).links (g.L.Links.count c.args.links.now)
    (g.L.Links.count c.check_normal_link.new.links))
    c.normal-new.ensures.normal
    (λ ns has. let near = add_neighbourhood (is_marked (g.L.Links.net c.args.links.now))
    (g.L.Links.net c.args.links.now).links ns c.normal-new.result has in
    c.in_ok-answer.ensures.count ns near.0 near.1)
