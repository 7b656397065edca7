use Rattle.std.proofs.Common.{◌≡◌, take}
use Rattle.std.specs.List.{filter_map}
use Rattle.thes_links.specs.Steps.{step_along}
use Rattle.thes_links.proofs.walk.nodes_along.Given as goal

abbrev pub invariant-loop-link : goal.invariant-loop-link
invariant-loop-link l = l.next.items ≡ filter_map (λ m. step_along l.relation m l.n) (take l.link-index l.links)
