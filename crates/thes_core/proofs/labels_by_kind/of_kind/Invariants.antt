use Rattle.std.proofs.Common.{◌≡◌, filter, map, take}
use Rattle.thes_core.specs.LabelLists.{is_of_kind}
use Rattle.thes_core.proofs.labels_by_kind.of_kind.Given as goal

abbrev pub invariant-loop-label : goal.invariant-loop-label
invariant-loop-label l = map (λ x. x.now) l.found.items ≡ filter (is_of_kind l.kind) (take l.label-index l.labels)
