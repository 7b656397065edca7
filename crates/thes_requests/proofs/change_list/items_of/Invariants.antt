use Rattle.std.proofs.Common.{◌≡◌, take}
use Rattle.thes_requests.specs.ChangeTexts.{items_text}
use Rattle.thes_requests.proofs.change_list.items_of.Given as goal

abbrev pub invariant-loop-change : goal.invariant-loop-change
invariant-loop-change l = l.list ≡ items_text (take l.change-index l.changes)
