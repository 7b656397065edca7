use Rattle.std.proofs.Common.{ap, sym, ◌∙◌, take}
use Rattle.thes_base.specs.Links.{Links, normal_form}
use Rattle.thes_links.specs.GraphView.{GraphView, is_marked}
use Rattle.thes_graph.specs.MergeAdditions.{without_links}
use Rattle.thes_graph.proofs.ChangeLemmas.{net_with, undo_additions}
use Rattle.thes_links.proofs.WeightLemmas.{Contains-take}
use Rattle.thes_graph.proofs.graph.Graph.add_all.Goals as goal

pub add-requires : goal.add-requires
add-requires c = c.requires.two_ends c.index-links-i.result (c.loop-i.i, c.loop-i-test.true, sym c.index-links-i.is)

pub loop-i-preserved : goal.loop-i-preserved
loop-i-preserved c =
    net_with c.args.self.now.links c.args.links.now c.loop-i.i c.index-links-i.result
    (normal_form (is_marked c.loop-i.self) c.index-links-i.result) c.loop-i.self c.add.new.self c.loop-i-test.true
    c.index-links-i.is
    (ap (λ (net : GraphView). normal_form (is_marked net) c.index-links-i.result) c.loop-i.invariant
    ∙ c.requires.normal c.index-links-i.result (c.loop-i.i, c.loop-i-test.true, sym c.index-links-i.is))
    c.args.self.now c.loop-i.invariant c.in_default.ensures.ok

pub returns-in-Err-clause-err : goal.returns-in-Err-clause-err
returns-in-Err-clause-err c =
    c.detach_all.ensures
    ∙ ap (λ (net : GraphView). record {
      links = without_links net.links (take c.loop-i.i c.args.links.now);
      outside =
          net.outside;
    }) (c.in-Err.ensures.err ∙ c.loop-i.invariant)
    ∙ ap (λ (links : Links). record { links = links; outside = c.args.self.now.outside })
    (undo_additions c.args.self.now.links (take c.loop-i.i c.args.links.now)
    (λ l has. c.requires.new l (Contains-take c.loop-i.i c.args.links.now l has)))
