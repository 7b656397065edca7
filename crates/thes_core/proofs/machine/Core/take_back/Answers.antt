use Rattle.std.proofs.Common.{◌≡◌, ◌∙◌, refl, sym, arith, List, ap, subst, length, false}
use Rattle.std.proofs.lemmas.List.{take_all}
use Rattle.thes_core.specs.CoreView.{CoreView}
use Rattle.thes_core.specs.UndoLogs.{IsLogOf, IsUndoStep, StepsLead}
use Rattle.thes_core.specs.declared.undo_log.UndoStep.{UndoStep}
use Rattle.thes_core.proofs.UndoLogLemmas.{last_applied, log_of_rest, take_last, view_of_rest}
use Rattle.thes_core.proofs.machine.Core.take_back.Goals as goal

pub undoing-init : goal.undoing-init
undoing-init c =
    let xs = c.as_slice-steps.result.now in
    let whole = take_all (length xs) xs (omega arith) in
    record {
      within = omega arith;
      logged = λ unspent. subst (λ (l : List UndoStep). IsLogOf l c.args.self.now)
          (sym (whole ∙ c.as_slice-steps.ensures.value ∙ c.log.view_is)) c.requires.logged;
      setting = λ unspent. refl;
      back = λ unspent s t lead holds. (
        t,
        subst (λ (l : List UndoStep). StepsLead (IsUndoStep c.args.self.now.setting) s l t) (sym whole) lead,
        holds,
      );
    }

pub take_back_step-requires-clause-applied : goal.take_back_step-requires-clause-applied
take_back_step-requires-clause-applied c =
    let xs = c.as_slice-steps.result.now in
    let popped = take_last xs c.undoing.left c.index-steps-left.result c.undoing-test.true c.undoing.invariant.within
    c.index-steps-left.is in
    let was : c.undoing.self.spent ≡ false = sym (ap (λ (x : CoreView). x.spent) c.self.view_is) ∙ c.if-self.false in
    last_applied c.undoing.self _ _ c.index-steps-left.result popped (c.undoing.invariant.logged was)

pub undoing-preserved : goal.undoing-preserved
undoing-preserved c =
    let xs = c.as_slice-steps.result.now in
    let step = c.index-steps-left.result in
    let before = c.undoing.invariant in
    let popped = take_last xs c.undoing.left step c.undoing-test.true before.within c.index-steps-left.is in
    let was : c.undoing.self.spent ≡ false = sym (ap (λ (x : CoreView). x.spent) c.self.view_is) ∙ c.if-self.false in
    let within = before.within in
    record {
      within = omega (arith, within);
      logged = λ unspent. log_of_rest c.undoing.self _ _ step popped (before.logged was) c.take_back_step.new.self
          (c.take_back_step.ensures.setting unspent) (c.take_back_step.ensures.parts unspent);
      setting = λ unspent. c.take_back_step.ensures.setting unspent ∙ before.setting was;
      back = λ unspent s t lead holds.
          let here = before.back was s t lead holds in
          view_of_rest c.args.self.now.setting c.undoing.self c.take_back_step.new.self _ _ step popped
          (before.setting was) (c.take_back_step.ensures.view unspent) s here.0 here.1 here.2;
    }
