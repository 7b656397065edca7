use Rattle.std.proofs.Common.{ℕ, List, sym, subst}
use Rattle.thes_base.specs.Links.{Holds}
use Rattle.thes_graph.specs.CycleSearch.{IsUpwardOrder}
use Rattle.thes_graph.proofs.CycleSearchLemmas.{IsUpwardOrder-none}
use Rattle.thes_graph.proofs.whole.check_listed_links.Goals as goal

pub has_cycle-requires-clause-order : goal.has_cycle-requires-clause-order
has_cycle-requires-clause-order g c =
    subst (λ (nodes : List ℕ). IsUpwardOrder (Holds (g.L.Links.net c.args.links.now).links) nodes)
    (sym c.none-order.ensures) (IsUpwardOrder-none (Holds (g.L.Links.net c.args.links.now).links))
