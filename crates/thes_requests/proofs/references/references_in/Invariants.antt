use Rattle.std.proofs.Common.{◌≡◌, take}
use Rattle.thes_requests.specs.References.{item_references}
use Rattle.thes_requests.specs.Tree.{items_view}
use Rattle.thes_requests.proofs.references.references_in.Given as goal

abbrev pub invariant-loop-item : goal.invariant-loop-item
invariant-loop-item l = l.found.items ≡ item_references (items_view (take l.item-index l.items))
