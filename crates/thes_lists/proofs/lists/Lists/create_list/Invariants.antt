use Rattle.std.proofs.Common.{◌+◌, ◌-◌, length}
use Rattle.thes_lists.specs.Lists.{HaveSameValues, KeepsSpare}
use Rattle.thes_lists.proofs.lists.Lists.create_list.Given as goal

abbrev pub invariant-opening : goal.invariant-opening
invariant-opening g l = record {
  same : HaveSameValues l.fn.self l.self;
  rooms : KeepsSpare l.fn.self l.self;
}

abbrev pub decreases-opening : goal.decreases-opening
decreases-opening g l = l.n + 1 - length l.self.lists.items
