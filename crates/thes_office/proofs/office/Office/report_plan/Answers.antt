use Rattle.std.proofs.Common.{◌≡◌, ap, sym, subst, ◌∙◌, Bool}
use Rattle.std.specs.Prelude.{Ok}
use Rattle.thes_base.specs.declared.data.Limits.{Limits}
use Rattle.thes_office.specs.Office.{IsConsistent, IsCopy, OfficeView}
use Rattle.thes_office.proofs.OfficeViewLemmas.{consistent_when_spent}
use Rattle.thes_office.proofs.PlanDecisionLemmas.{consistent_after_plan, report_since}
use Rattle.thes_office.proofs.StepLemmas.{copies_own}
use Rattle.thes_office.proofs.office.Office.report_plan.Goals as goal

pub perform_plan-requires : goal.perform_plan-requires
perform_plan-requires g c =
    let fresh = ap (λ (d : OfficeView _). d.stale) c.self.view_is ∙ c.in_ok-refresh.ensures.fresh in record {
      unspent = c.self.invariant.unspent fresh;
      copies = λ up. copies_own (g.K.Keeper.view c.self.inside.keeper).rows c.self.inside.limits c.self.inside.core
          (c.self.invariant.copies fresh up);
    }

pub invariant_of-self : goal.invariant_of-self
invariant_of-self g c =
    let fresh = ap (λ (d : OfficeView _). d.stale) c.self.view_is ∙ c.in_ok-refresh.ensures.fresh in
    subst (λ (b : Bool). IsConsistent g.K.Keeper.view c.perform_plan.new.keeper
    c.perform_plan.new.core c.self.inside.limits b) (sym c.is_spent-self-inside.ensures.value)
    (consistent_after_plan g.K.Keeper.view c.self.inside.keeper c.perform_plan.new.keeper
    c.perform_plan.new.core c.self.inside.limits c.self.inside.core.setting.limits
    (record { run = c.args.run; requests = c.args.plan })
    c.in-Ok.outcome
    c.in-Ok.ensures.reported.0 c.self.invariant.limits_fit c.in-Ok.ensures.reported.2
    (λ unspent up. subst (λ (l : Limits). IsCopy (g.K.Keeper.view c.perform_plan.new.keeper).rows l
    c.perform_plan.new.core) (c.self.invariant.copies fresh (c.perform_plan.ensures.keeps.was up)).limits_are
    (c.in-Ok.ensures.copies unspent up)))

pub invariant_of-self-in-Err : goal.invariant_of-self-in-Err
invariant_of-self-in-Err g c =
    consistent_when_spent g.K.Keeper.view c.self.inside.keeper
    c.perform_plan.new.keeper c.self.inside.core c.perform_plan.new.core c.self.inside.limits c.self.inside.stale
    c.self.invariant c.perform_plan.ensures.keeps.was c.in-Err.ensures.keeps.same c.in-Err.ensures.spent

pub returns-in-Ok-clause-reported : goal.returns-in-Ok-clause-reported
returns-in-Ok-clause-reported g c =
    let fresh = ap (λ (d : OfficeView _). d.stale) c.self.view_is ∙ c.in_ok-refresh.ensures.fresh in
    report_since g.K.Keeper.view g.R.ChangeReport.adds c.args.report.now c.perform_plan.new.report c.args.self.now
    c.self.inside.keeper c.perform_plan.new.keeper c.self.inside.limits c.self.inside.core.setting.limits
    c.is_spent-self-inside.result (record { run = c.args.run; requests = c.args.plan }) (Ok c.in-Ok.outcome)
    (ap (λ (d : OfficeView _). d.limits) c.self.view_is ∙ c.in_ok-refresh.ensures.fault_behaviour.limits)
    (λ up. (c.self.invariant.copies fresh (c.perform_plan.ensures.keeps.was up)).limits_are)
    (λ up. subst (λ (d : OfficeView _). (g.K.Keeper.view d.keeper).is_up → (g.K.Keeper.view d.keeper).rows
    ≡ (g.K.Keeper.view c.args.self.now.keeper).rows) (sym c.self.view_is) c.in_ok-refresh.ensures.same
    (c.perform_plan.ensures.keeps.was up)) tt c.in-Ok.ensures.reported
