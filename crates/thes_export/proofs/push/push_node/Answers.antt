use Rattle.std.proofs.Common.{refl}
use Rattle.thes_export.specs.Topics.{IsNode, node_triple}
use Rattle.thes_export.proofs.LineAppendLemmas.{one_triple}
use Rattle.thes_export.proofs.push.push_node.Goals as goal

pub returns : goal.returns
returns c = one_triple (IsNode c.args.about.now.core.now c.args.about.now.n c.args.property c.args.object)
    (node_triple c.args.about.now.core.now c.args.about.now.n c.args.property c.args.object) _ _ _ c.in_ok-line.ensures
    refl (λ t e. e) c.in_ok-push_line.ensures
