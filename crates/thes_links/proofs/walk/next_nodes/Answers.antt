use Rattle.std.proofs.Common.{ap, ◌∙◌}
use Rattle.std.specs.List.{filter_map}
use Rattle.thes_base.specs.declared.data.Link.{Link}
use Rattle.thes_links.specs.Steps.{step_along}
use Rattle.thes_links.proofs.NextNodeLemmas.{next_nodes-all}
use Rattle.thes_links.proofs.walk.next_nodes.Goals as goal

pub returns-clause-next : goal.returns-clause-next
returns-clause-next g c =
    next_nodes-all c.args.relation (g.L.Links.net c.args.links.now).links c.args.n c.in_ok-row.row.items
    c.in_ok-next.next.items c.in_ok-row.ensures.listed
    (c.in_ok-next.ensures ∙ ap (filter_map (λ (l : Link). step_along c.args.relation l c.args.n))
    c.deref.ensures.value)
