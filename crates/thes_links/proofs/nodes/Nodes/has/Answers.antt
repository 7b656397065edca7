use Rattle.std.proofs.Common.{ap, ◌∙◌, ◌<◌, nat_eq, length, rules}
use Rattle.std.specs.List.{list_any}
use Rattle.thes_links.specs.NodeSet.{mark_at}
use Rattle.thes_links.proofs.NodeSetLemmas.{has_met}
use Rattle.thes_links.proofs.nodes.Nodes.has.Goals as goal

pub returns : goal.returns
returns c =
    let many : 16 < length c.self.inside.list.items = search rules in
    has_met c.args.self.now c.args.n c.has_mark.result
    (c.has_mark.ensures ∙ ap (λ marks. mark_at marks c.args.n) c.deref.ensures.value
    ∙ c.self.invariant.0 many c.args.n ∙ ap (list_any (nat_eq c.args.n)) c.self.view_is)
