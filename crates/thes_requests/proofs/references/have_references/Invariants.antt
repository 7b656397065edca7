use Rattle.std.proofs.Common.{◌≡◌, take}
use Rattle.thes_requests.specs.References.{members_without_references}
use Rattle.thes_requests.specs.Tree.{members_view}
use Rattle.thes_requests.proofs.references.have_references.Given as goal

abbrev pub invariant-loop-member : goal.invariant-loop-member
invariant-loop-member l = members_without_references (members_view (take l.member-index l.members))
    ≡ members_view (take l.member-index l.members)
