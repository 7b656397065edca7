use Rattle.std.proofs.Common.{Contains}
use Rattle.thes_base.specs.declared.data.Link.{Link}
use Rattle.thes_links.specs.declared.relation.Relation.TheVariants as relation
use Rattle.thes_links.specs.Steps.{HasDirection}
use Rattle.thes_graph.proofs.WholeLemmas.{holds_more, holds_all}
use Rattle.thes_graph.proofs.s27.related_nodes.Goals as goal

pub loop-link-preserved : goal.loop-link-preserved
loop-link-preserved c =
    holds_more (λ (m : Link). HasDirection relation.Related m → Contains c.meet_related.new.nodes m.a
    × Contains c.meet_related.new.nodes m.b) c.args.all.now c.loop-link.link-index c.link-item.result
    c.loop-link-test.true c.link-item.is
    (λ k d lt has. let both = c.loop-link.invariant k d lt has in
    (c.in_ok-meet_related.ensures.extends _ both.0, c.in_ok-meet_related.ensures.extends _ both.1))
    c.in_ok-meet_related.ensures.ends

pub returns : goal.returns
returns c =
    holds_all (λ (m : Link). HasDirection relation.Related m → Contains c.loop-link.nodes m.a
    × Contains c.loop-link.nodes m.b) c.args.all.now c.loop-link.link-index c.loop-link-test.false
    c.loop-link.invariant
