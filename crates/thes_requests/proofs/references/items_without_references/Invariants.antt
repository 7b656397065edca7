use Rattle.std.proofs.Common.{◌≡◌, ◌++◌, length, map}
use Rattle.thes_requests.specs.References.{without_reference}
use Rattle.thes_requests.specs.Tree.{view}
use Rattle.thes_requests.proofs.references.items_without_references.Given as goal

abbrev pub invariant-loop-item : goal.invariant-loop-item
invariant-loop-item l = (map view l.found.items ≡ map without_reference (map view l.yielded))
    × (l.yielded ++ l.item-iterator.rest.items ≡ l.initial.item-iterator.rest.items)
    × (length l.item-iterator.rest.items ≡ l.item-iterator.rest.len)
