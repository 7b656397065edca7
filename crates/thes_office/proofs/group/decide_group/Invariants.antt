use Rattle.std.proofs.Common.{◌≡◌, false, take, length}
use Rattle.thes_store.specs.Storage.{KeepsStorage}
use Rattle.thes_office.specs.Groups.{GroupDecided}
use Rattle.thes_office.proofs.group.decide_group.Given as goal

abbrev pub invariant-loop-command : goal.invariant-loop-command
invariant-loop-command g l = record {
  keeps : KeepsStorage (g.K.Keeper.view l.fn.keeper) (g.K.Keeper.view l.keeper);
  unspent : l.core.spent ≡ false;
  setting : l.core.setting ≡ l.fn.core.setting;
  each : length l.decided.answers.items ≡ l.command-index;
  decides : (g.K.Keeper.view l.keeper).is_up → GroupDecided (g.K.Keeper.view l.fn.keeper).rows l.fn.core.setting
      (take l.command-index l.group) l.decided.answers.items l.decided.delta l.core;
}
