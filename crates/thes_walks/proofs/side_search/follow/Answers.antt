use Rattle.std.proofs.Common.{List, arith}
use Rattle.thes_base.specs.declared.data.Link.{Link}
use Rattle.thes_walks.specs.SideSearch.{far_node_after, LeadsWithin, LeadsFrom}
use Rattle.thes_walks.proofs.FarNodeLemmas.{far_is_step}
use Rattle.thes_walks.proofs.SideSearchLemmas.{IsSearchResult-same, LeadsFrom-read, LeadsFrom-there, part_cost}
use Rattle.thes_walks.proofs.side_search.follow.Goals as goal

pub returns-clause-finds : goal.returns-clause-finds
returns-clause-finds g c relation can =
    let row : List Link = g.L.Links.links_of (g.L.Links.net c.args.links.now) c.args.range.at in
    let same = far_is_step c.args.edit.now relation c.args.range.at c.args.range.x can.one_side can.replaces in
    IsSearchResult-same c.args.nodes.now c.follow_part.new.nodes c.args.goals.now
    (LeadsWithin (far_node_after c.args.edit.now c.args.range.at c.args.range.x) row c.args.range.part.from
    c.args.range.part.to)
    (LeadsFrom c.args.edit.now (g.L.Links.net c.args.links.now).links relation c.args.range.at c.args.range.x)
    (λ y. LeadsFrom-read (far_node_after c.args.edit.now c.args.range.at c.args.range.x) row c.args.edit.now relation
    c.args.range.x
    (g.L.Links.net c.args.links.now).links c.args.range.at c.args.range.part can.ready.is_row can.ready.on_side same
    c.args.range.part.to y (omega arith))
    (λ y. LeadsFrom-there (far_node_after c.args.edit.now c.args.range.at c.args.range.x) row c.args.edit.now relation
    c.args.range.x
    (g.L.Links.net c.args.links.now).links c.args.range.at c.args.range.part can.ready.is_row can.ready.on_side same
    c.args.range.part.to y (omega arith))
    c.in_ok-found.found c.in_ok-found.ensures.finds

pub returns-clause-count : goal.returns-clause-count
returns-clause-count g c side ready ns stands =
    omega (
      arith,
      c.in_ok-found.ensures.count,
      part_cost (g.L.Links.net c.args.links.now).links c.args.range.at side
          (g.L.Links.links_of (g.L.Links.net c.args.links.now) c.args.range.at) c.args.range.part ready.is_row
          ready.on_side ns stands,
    )
