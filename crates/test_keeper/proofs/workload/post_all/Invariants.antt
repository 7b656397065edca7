use Rattle.std.proofs.Common.{◌+◌}
use Rattle.test_keeper.specs.PostedTables.{AwaitsPosting}
use Rattle.test_keeper.proofs.workload.post_all.Given as goal

abbrev pub invariant-loop-made : goal.invariant-loop-made
invariant-loop-made g l = AwaitsPosting (g.K.Keeper.view l.keeper) (l.made + 1)
