use Rattle.std.proofs.Common.{◌++◌, ◌∷◌, [], ◌∙◌, ap, subst, sym, refl, List}
use Rattle.thes_base.specs.Machine.{next_state}
use Rattle.thes_core.specs.UndoLogs.{IsLogOf, IsUndoStep, StepsLead}
use Rattle.thes_core.specs.declared.undo_log.UndoStep.{UndoStep}
use Rattle.thes_core.proofs.UndoLogLemmas.{log_grows, lost_from_view, steps_push}
use Rattle.thes_core.proofs.machine.Core.apply_logged.Goals as goal

pub returns-clause-logs : goal.returns-clause-logs
returns-clause-logs c = λ log.
    let step : UndoStep = record { command = c.args.command; lost = c.in_ok-lost.lost } in
    let pushed = c.in-Ok.ensures.items ∙ ap (λ (l : List UndoStep). l ++ step ∷ []) c.log.view_is in
    subst (λ (l : List UndoStep). IsLogOf l c.apply.new.self) (sym pushed)
    (log_grows c.args.self.now c.apply.new.self c.args.log.now step log c.in_ok-apply.ensures.frame.1
    (record { application = c.in_ok-apply.ensures.parts; lost = c.in_ok-lost.ensures.parts }))

pub returns-clause-steps : goal.returns-clause-steps
returns-clause-steps c = λ first s holds are accepts lead.
    let setting = c.args.self.now.setting in
    let step : UndoStep = record { command = c.args.command; lost = c.in_ok-lost.lost } in
    let pushed = c.in-Ok.ensures.items ∙ ap (λ (l : List UndoStep). l ++ step ∷ []) c.log.view_is in
    subst (λ (l : List UndoStep). StepsLead (IsUndoStep setting) first l (next_state c.args.command s)) (sym pushed)
    (steps_push (IsUndoStep setting) first s (next_state c.args.command s) c.args.log.now step lead (record {
      legal = holds.legal;
      accepts = accepts;
      lost = lost_from_view c.args.self.now s c.args.command c.in_ok-lost.lost holds c.in_ok-lost.ensures.parts;
      lost_postings = c.in_ok-lost.ensures.postings s accepts are;
      after = refl;
    }))
