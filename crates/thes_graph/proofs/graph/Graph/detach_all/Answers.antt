use Rattle.thes_graph.proofs.ChangeLemmas.{net_without}
use Rattle.thes_graph.proofs.graph.Graph.detach_all.Goals as goal

pub loop-link-preserved : goal.loop-link-preserved
loop-link-preserved c =
    net_without c.args.self.now.links c.args.links.now c.loop-link.link-index c.link-item.result c.loop-link.self
    c.detach.new.self c.loop-link-test.true c.link-item.is
    c.args.self.now c.loop-link.invariant c.detach.ensures
