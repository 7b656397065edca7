use Rattle.std.proofs.Common.{◌≡◌, false, length}
use Rattle.thes_store.specs.Storage.{KeepsStorage}
use Rattle.thes_core.specs.UndoLogs.{IsLogOf}
use Rattle.thes_office.specs.PlanDecisions.{PlanDecidedSoFar}
use Rattle.thes_office.proofs.plan.decide_plan.Given as goal

abbrev pub invariant-loop-asked : goal.invariant-loop-asked
invariant-loop-asked g l = record {
  keeps : KeepsStorage (g.K.Keeper.view l.fn.keeper) (g.K.Keeper.view l.keeper);
  unspent : l.core.spent ≡ false;
  setting : l.core.setting ≡ l.fn.core.setting;
  logged : IsLogOf l.progress.log l.core;
  each : length l.progress.decided.answers.items ≡ length l.yielded;
  decides : (g.K.Keeper.view l.keeper).is_up → PlanDecidedSoFar (g.K.Keeper.view l.fn.keeper).rows l.fn.core.setting
      l.yielded l.progress l.core;
}
