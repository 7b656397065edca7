use Rattle.thes_links.specs.GraphView.{is_marked}
use Rattle.thes_links.proofs.ContractLemmas.{IsFirstBroken-contracted}
use Rattle.thes_walks.proofs.EditCheckLemmas.{IsFirstBroken-joined, CoversNear-joined}
use Rattle.thes_walks.proofs.NeighbourhoodLemmas.{merge_neighbourhood}
use Rattle.thes_walks.proofs.judge.judge_contract.Goals as goal

pub returns-clause-first : goal.returns-clause-first
returns-clause-first g c =
    IsFirstBroken-contracted (is_marked (g.L.Links.net c.args.links.now)) c.args.source c.args.target
    (g.L.Links.net c.args.links.now).links c.in_ok-answer.answer
    (IsFirstBroken-joined (g.L.Links.net c.args.links.now).links c.args.source c.args.target c.requires.ends
    c.requires.unbroken c.in_ok-answer.answer c.in_ok-answer.ensures.first)

pub returns-clause-count : goal.returns-clause-count
returns-clause-count g c ns has =
    c.in_ok-answer.ensures.count ns
    (CoversNear-joined (g.L.Links.net c.args.links.now).links c.args.source c.args.target c.requires.ends
    c.requires.unbroken ns
    (merge_neighbourhood (is_marked (g.L.Links.net c.args.links.now)) (g.L.Links.net c.args.links.now).links ns
    c.args.source c.args.target has))
