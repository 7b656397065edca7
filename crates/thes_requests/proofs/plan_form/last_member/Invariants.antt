use Rattle.std.proofs.Common.{◌≡◌, vec_len}
use Rattle.serde_json.specs.Find.{get_member}
use Rattle.thes_requests.specs.Tree.{members_view}
use Rattle.thes_requests.proofs.plan_form.last_member.Given as goal

abbrev pub invariant-loop-found : goal.invariant-loop-found
invariant-loop-found l =
    get_member l.name (members_view l.fn.members.items) ≡ get_member l.name (members_view l.left.items)

abbrev pub decreases-loop-found : goal.decreases-loop-found
decreases-loop-found l = vec_len l.left
