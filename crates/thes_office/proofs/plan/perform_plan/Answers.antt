use Rattle.std.proofs.Common.{refl, sym, ◌∙◌, [], inl, inr}
use Rattle.thes_plans.specs.declared.plan.PlanOutcome.TheVariants.{Done}
use Rattle.thes_office.proofs.PlanDecisionLemmas.{copy_after_end, copy_after_refusal, plan_ends, refusal_leaves}
use Rattle.thes_office.proofs.PlanDecisionLemmas.{refusal_without_changes}
use Rattle.thes_office.proofs.StateTableLemmas.{changes_fit}
use Rattle.thes_office.proofs.plan.perform_plan.Goals as goal

pub end_plan-requires-clause-fits : goal.end_plan-requires-clause-fits
end_plan-requires-clause-fits g c up t is =
    let d = (rw c.in-Ok-Accepted.field-0-is at c.in-Ok-Accepted.ensures.decides up).decided in
    changes_fit (g.K.Keeper.view c.args.keeper.now).rows c.args.core.now.setting.base d.state_before d.state_after
    c.in-Ok-Accepted.delta d.shows d.leads t (sym (c.decide_plan.ensures.asks.same up) ∙ is)

pub end_plan-requires-clause-logged : goal.end_plan-requires-clause-logged
end_plan-requires-clause-logged g c = rw c.in-Ok-Accepted.field-0-is at c.in-Ok-Accepted.ensures.logs

pub end_plan-requires-clause-unspent : goal.end_plan-requires-clause-unspent
end_plan-requires-clause-unspent g c = (rw c.in-Ok-Accepted.field-0-is at c.in-Ok-Accepted.ensures.usable).0

pub returns-in_default-end_plan-clause-reported : goal.returns-in_default-end_plan-clause-reported
returns-in_default-end_plan-clause-reported g c = (
  c.in-Ok-Accepted.delta,
  inl c.in_default.ensures.ok,
  λ up.
      let was = c.end_plan.ensures.keeps.was up in
      let d = rw c.in-Ok-Accepted.field-0-is at c.in-Ok-Accepted.ensures.decides was in
      let usable = rw c.in-Ok-Accepted.field-0-is at c.in-Ok-Accepted.ensures.usable in
      plan_ends (g.K.Keeper.view c.args.keeper.now) (g.K.Keeper.view c.decide_plan.new.keeper)
      (g.K.Keeper.view c.end_plan.new.keeper) c.args.core.now.setting c.args.asked.requests.items
      c.in-Ok-Accepted.answers.items c.in-Ok-Accepted.delta c.in-Ok-Accepted.log c.decide_plan.new.core
      c.end_plan.new.core d usable.1 (c.decide_plan.ensures.asks.same was) up c.args.asked.run
      c.in_default-end_plan.ensures.ends (Done c.in-Ok-Accepted.answers) refl,
)

pub returns-in_default-end_plan-clause-copies : goal.returns-in_default-end_plan-clause-copies
returns-in_default-end_plan-clause-copies g c unspent up =
    let was = c.end_plan.ensures.keeps.was up in
    let d = rw c.in-Ok-Accepted.field-0-is at c.in-Ok-Accepted.ensures.decides was in
    let usable = rw c.in-Ok-Accepted.field-0-is at c.in-Ok-Accepted.ensures.usable in
    copy_after_end (g.K.Keeper.view c.args.keeper.now) (g.K.Keeper.view c.decide_plan.new.keeper)
    (g.K.Keeper.view c.end_plan.new.keeper) c.args.core.now.setting c.args.asked.requests.items
    c.in-Ok-Accepted.answers.items c.in-Ok-Accepted.delta c.in-Ok-Accepted.log c.decide_plan.new.core
    c.end_plan.new.core d usable.1 (c.decide_plan.ensures.asks.same was) up c.args.asked.run
    c.in_default-end_plan.ensures.ends unspent

pub returns-in-Ok-Refused-clause-reported : goal.returns-in-Ok-Refused-clause-reported
returns-in-Ok-Refused-clause-reported g c = (
  [],
  inr (refl, refl),
  λ up.
      let d = rw c.in-Ok-Refused.field-0-is at c.in-Ok-Refused.ensures.decides up in
      let old = (g.K.Keeper.view c.args.keeper.now).rows in
      let new = (g.K.Keeper.view c.decide_plan.new.keeper).rows in
      let same = c.decide_plan.ensures.asks.same up in (
        new,
        refusal_without_changes old new c.args.core.now.setting c.args.asked.requests.items c.in-Ok-Refused.place
            c.in-Ok-Refused.refusal c.decide_plan.new.core d same,
        refusal_leaves c.args.asked.run old new same,
      ),
)

pub returns-in-Ok-Refused-clause-copies : goal.returns-in-Ok-Refused-clause-copies
returns-in-Ok-Refused-clause-copies g c unspent up =
    let d = rw c.in-Ok-Refused.field-0-is at c.in-Ok-Refused.ensures.decides up in
    let usable = rw c.in-Ok-Refused.field-0-is at c.in-Ok-Refused.ensures.usable in
    copy_after_refusal (g.K.Keeper.view c.args.keeper.now).rows (g.K.Keeper.view c.decide_plan.new.keeper).rows
    c.args.core.now.setting c.args.asked.requests.items c.in-Ok-Refused.place c.in-Ok-Refused.refusal
    c.decide_plan.new.core d (c.decide_plan.ensures.asks.same up) unspent (usable unspent)
