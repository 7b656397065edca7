use Rattle.std.proofs.Common.{◌≡◌, ◌++◌}
use Rattle.thes_office.proofs.commit.append_changes.Given as goal

abbrev pub invariant-loop-change : goal.invariant-loop-change
invariant-loop-change l = l.delta ≡ l.fn.delta ++ l.yielded
