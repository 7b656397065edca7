use Rattle.std.proofs.Common.{◌≡◌, map, take}
use Rattle.serde_json.specs.View.{number_view}
use Rattle.thes_requests.specs.Requests.{whole_number, AreNumbers}
use Rattle.thes_requests.proofs.members.post_nos.Given as goal

abbrev pub invariant-loop-number : goal.invariant-loop-number
invariant-loop-number l = record {
  all : AreNumbers l.list;
  list : l.list ≡ map whole_number (map (λ n. number_view n.now) (take l.number-index l.numbers));
}
