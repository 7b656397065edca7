use Rattle.std.proofs.Common.{Contains}
use Rattle.thes_links.specs.declared.relation.Relation.TheVariants as relation
use Rattle.thes_links.specs.Steps.{HasDirection}
use Rattle.thes_graph.proofs.WholeLemmas.{HoldsBelow}
use Rattle.thes_graph.proofs.s27.related_nodes.Given as goal

abbrev pub invariant-loop-link : goal.invariant-loop-link
invariant-loop-link l =
    HoldsBelow (λ m. HasDirection relation.Related m → Contains l.nodes m.a × Contains l.nodes m.b) l.all l.link-index
