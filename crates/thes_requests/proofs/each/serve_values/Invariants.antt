use Rattle.std.proofs.Common.{◌≡◌, ◌+◌, ◌++◌, length, map}
use Rattle.thes_requests.specs.EachSteps.{ServesFront}
use Rattle.thes_requests.specs.Tree.{view}
use Rattle.thes_requests.proofs.each.serve_values.Given as goal

abbrev pub invariant-loop-value : goal.invariant-loop-value
invariant-loop-value g l = ServesFront g.D.RequestHandler.requests l.initial.handler (map view l.yielded) l.left
    l.report l.handler
    × (l.left + length l.yielded ≡ length l.initial.value-iterator.rest.items)
    × (l.yielded ++ l.value-iterator.rest.items ≡ l.initial.value-iterator.rest.items)
    × (length l.value-iterator.rest.items ≡ l.value-iterator.rest.len)
