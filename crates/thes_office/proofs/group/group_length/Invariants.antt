use Rattle.std.proofs.Common.{◌≡◌, ◌≤◌, ◌-◌, length, take}
use Rattle.thes_office.specs.Groups.{AreKeysMarked, IsGroup}
use Rattle.thes_office.proofs.group.group_length.Given as goal

abbrev pub invariant-growing : goal.invariant-growing
invariant-growing l = record {
  within : l.count ≤ length l.commands;
  group : IsGroup (take l.count l.commands);
  size : length l.marks ≡ 1024;
  marked : AreKeysMarked l.marks (take l.count l.commands);
}

abbrev pub decreases-growing : goal.decreases-growing
decreases-growing l = length l.commands - l.count
