use Rattle.std.proofs.Common.{◌≡◌, ◌++◌, length, map, vec_len}
use Rattle.thes_requests.specs.PlanReadings.{AreRequests}
use Rattle.thes_requests.specs.Tree.{view}
use Rattle.thes_requests.proofs.plan.requests_in.Given as goal

abbrev pub invariant-loop-item : goal.invariant-loop-item
invariant-loop-item l = AreRequests (map view l.yielded) l.plan.items
    × (vec_len l.plan ≡ length l.yielded)
    × (l.yielded ++ l.item-iterator.rest.items ≡ l.initial.item-iterator.rest.items)
    × (length l.item-iterator.rest.items ≡ l.item-iterator.rest.len)
