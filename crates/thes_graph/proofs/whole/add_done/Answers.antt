use Rattle.std.proofs.Common.{◌≡◌, ℕ, ◌∙◌, subst}
use Rattle.std.proofs.lemmas.List.{get_or_default}
use Rattle.thes_links.specs.Steps.{GrowsBy}
use Rattle.thes_graph.proofs.WholeLemmas.{GrowsBy-more}
use Rattle.thes_graph.proofs.whole.add_done.Goals as goal

pub loop-n-preserved : goal.loop-n-preserved
loop-n-preserved c =
    GrowsBy-more c.args.done.now c.loop-n.done c.meet.new.self c.args.nodes.now c.loop-n.n-index c.loop-n-test.true
    c.loop-n.invariant
    (subst (λ (n : ℕ). GrowsBy c.loop-n.done c.meet.new.self (λ z. n ≡ z))
    (c.n-item.is ∙ get_or_default c.args.nodes.now c.loop-n.n-index c.n-item.result 0 c.loop-n-test.true)
    c.in_ok-meet.ensures.grows)
