use Rattle.std.proofs.Common.{◌≡◌, map, take, Some}
use Rattle.serde_json.specs.View.{number_view}
use Rattle.thes_requests.specs.Tree.{items_view}
use Rattle.thes_requests.specs.Members.{all_numbers}
use Rattle.thes_requests.proofs.members.all_numbers.Given as goal

abbrev pub invariant-loop-value : goal.invariant-loop-value
invariant-loop-value l = all_numbers (items_view (take l.value-index l.values))
    ≡ Some (map (λ n. number_view n.now) l.numbers.items)
