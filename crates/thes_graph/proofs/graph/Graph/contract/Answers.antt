use Rattle.std.proofs.Common.{ap, ◌∙◌}
use Rattle.thes_base.specs.Links.{Links, links_after_deprecation}
use Rattle.thes_links.specs.GraphView.{GraphView}
use Rattle.thes_graph.proofs.MergeAdditionLemmas.{AreNew-merge_additions, merged_links}
use Rattle.thes_graph.proofs.graph.Graph.contract.Goals as goal

pub add_all-requires : goal.add_all-requires
add_all-requires c = rw c.deref.ensures.value (AreNew-merge_additions c.args.self.now c.args.source c.args.target
    c.in_ok-merge_additions.merge_additions.items c.in_ok-merge_additions.ensures.merge_additions)

pub returns-clause-ok : goal.returns-clause-ok
returns-clause-ok c =
    c.drop_all.ensures
    ∙ ap (λ (net : GraphView). record {
      links = links_after_deprecation c.args.source net.links;
      outside = net.outside;
    })
    (rw c.deref.ensures.value at c.in_ok-add_all.ensures.ok)
    ∙ ap (λ (links : Links). record { links = links; outside = c.args.self.now.outside })
    (merged_links c.args.self.now c.args.source c.args.target c.in_ok-merge_additions.merge_additions.items
    c.in_ok-merge_additions.ensures.merge_additions c.requires c.in_ok-merge_additions.ensures.two_ends
    c.in_ok-merge_additions.ensures.normal)
