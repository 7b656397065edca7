use Rattle.std.proofs.Common.{◌≡◌, ◌++◌, length}
use Rattle.thes_requests.specs.References.{members_without_references}
use Rattle.thes_requests.specs.Tree.{members_view}
use Rattle.thes_requests.proofs.references.members_without_references.Given as goal

abbrev pub invariant-loop-name : goal.invariant-loop-name
invariant-loop-name l = (members_view l.found.items ≡ members_without_references (members_view l.yielded))
    × (l.yielded ++ l.name-iterator.rest.items ≡ l.initial.name-iterator.rest.items)
    × (length l.name-iterator.rest.items ≡ l.name-iterator.rest.len)
