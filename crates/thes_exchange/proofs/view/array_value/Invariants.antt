use Rattle.std.proofs.Common.{◌≡◌, map, take}
use Rattle.serde_json.specs.View.{view}
use Rattle.thes_exchange.proofs.view.array_value.Given as goal

abbrev pub invariant-loop-element : goal.invariant-loop-element
invariant-loop-element g l = map view l.list.items ≡ map g.T.Element.data (take l.element-index l.elements)
