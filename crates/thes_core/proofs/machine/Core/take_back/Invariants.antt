use Rattle.std.proofs.Common.{◌≡◌, ◌≤◌, false, length, take}
use Rattle.thes_base.specs.State.{State}
use Rattle.thes_core.specs.CoreView.{IsViewOf}
use Rattle.thes_core.specs.UndoLogs.{IsLogOf, IsUndoStep, StepsLead}
use Rattle.thes_core.proofs.machine.Core.take_back.Given as goal

abbrev pub invariant-undoing : goal.invariant-undoing
invariant-undoing l = record {
  within : l.left ≤ length l.steps;
  logged : l.self.spent ≡ false → IsLogOf (take l.left l.steps) l.self;
  setting : l.self.spent ≡ false → l.self.setting ≡ l.fn.self.setting;
  back : l.self.spent ≡ false → (s t : State) → StepsLead (IsUndoStep l.fn.self.setting) s l.steps t
      → IsViewOf l.fn.self t
      → (u : State) × StepsLead (IsUndoStep l.fn.self.setting) s (take l.left l.steps) u × IsViewOf l.self u;
}

abbrev pub decreases-undoing : goal.decreases-undoing
decreases-undoing l = l.left
