use Rattle.std.proofs.Common.{◌≡◌, ◌≤◌, take}
use Rattle.serde_json.specs.Events.{members_len}
use Rattle.thes_requests.specs.Tree.{members_view}
use Rattle.thes_requests.proofs.tree.has_names.Given as goal

abbrev pub invariant-loop-index : goal.invariant-loop-index
invariant-loop-index l = (l.names ≡ members_len (members_view (take l.index l.members))) × (l.names ≤ l.count)
