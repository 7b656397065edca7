use Rattle.std.proofs.Common.{◌≡◌, ap, ◌∙◌, inl, inr, refl, [], rules, arith}
use Rattle.thes_base.specs.declared.fault.Fault.TheVariants as faults
use Rattle.thes_office.specs.Office.{OfficeView}
use Rattle.thes_office.proofs.OfficeViewLemmas.{has_failed, consistent_after_query, never_falls}
use Rattle.thes_office.proofs.VerdictLemmas.{accepted_fits, consistent_when_accepted}
use Rattle.thes_office.proofs.VerdictLemmas.{reported_when_accepted, reported_when_settled}
use Rattle.thes_office.proofs.office.Office.report.Goals as goal

pub returns-in-Settled-clause-reported : goal.returns-in-Settled-clause-reported
returns-in-Settled-clause-reported g c = (
  [],
  inr (refl, refl),
  reported_when_settled g.K.Keeper.view c.self.inside.keeper c.self.inside.core
      c.self.inside.limits c.self.inside.stale c.gather_facts.new.self c.self.invariant c.self.view_is
      c.in_ok-facts.ensures.frame.fresh c.args.command.now c.in_ok-facts.facts c.in_ok-facts.ensures.in_tables _
      c.in_ok-answer.ensures.decides
      c.args.self.now c.in-Settled.answer c.in_ok-facts.ensures.frame.fault_behaviour.limits
      c.in_ok-facts.ensures.frame.same c.in-Settled.is,
)

pub commit-requires : goal.commit-requires
commit-requires g c = record {
  fits = accepted_fits g.K.Keeper.view c.self.inside.keeper c.self.inside.core
      c.self.inside.limits c.self.inside.stale c.gather_facts.new.self c.self.invariant c.self.view_is
      c.in_ok-facts.ensures.frame.fresh c.args.command.now c.in_ok-facts.facts c.in_ok-facts.ensures.in_tables _
      c.in_ok-answer.ensures.decides
      c.in-Accepted.answer c.in-Accepted.delta c.in-Accepted.is;
}

pub invariant_of-self : goal.invariant_of-self
invariant_of-self g c =
    consistent_after_query g.K.Keeper.view c.self.inside.keeper c.commit.new.self
    c.self.inside.core c.self.inside.limits c.self.inside.stale c.eq-self-inside.result c.self.invariant
    (never_falls _ _ _ c.commit.ensures.keeps.cause)
    (λ e. let is : c.in-Err.fault ≡ faults.Store = search rules in
    inr (has_failed _ _ _ c.in-Err.ensures.keeps.cause is))
    (λ e. ap (λ (d : OfficeView _). d.stale) c.self.view_is ∙ c.in_ok-facts.ensures.frame.fresh)
    c.commit.ensures.keeps.was c.in-Err.ensures.keeps.same

pub apply-requires-clause-may : goal.apply-requires-clause-may
apply-requires-clause-may g c = grind (arith)

pub invariant_of-self-in-Accepted : goal.invariant_of-self-in-Accepted
invariant_of-self-in-Accepted g c =
    consistent_when_accepted g.K.Keeper.view c.self.inside.keeper c.self.inside.core
    c.self.inside.limits c.self.inside.stale c.gather_facts.new.self c.self.invariant c.self.view_is
    c.in_ok-facts.ensures.frame.fresh c.args.command.now c.in_ok-facts.facts c.in_ok-facts.ensures.in_tables _
    c.in_ok-answer.ensures.decides
    c.in-Accepted.answer c.in-Accepted.delta c.in-Accepted.is c.commit.new.self c.learn_forms.ensures
    c.commit.ensures.keeps.was c.in_default.ensures.ok c.apply.new.self c.apply.result c.is_spent-self-inside.result
    c.is_spent-self-inside.ensures.value c.apply.ensures.made c.apply.ensures.frame

pub returns-clause-reported : goal.returns-clause-reported
returns-clause-reported g c = (
  c.in-Accepted.delta,
  inl (c.in_ok-report_changes-in-Accepted.ensures.ok),
  reported_when_accepted g.K.Keeper.view c.self.inside.keeper c.self.inside.core
      c.self.inside.limits c.self.inside.stale c.gather_facts.new.self c.self.invariant c.self.view_is
      c.in_ok-facts.ensures.frame.fresh c.args.command.now c.in_ok-facts.facts c.in_ok-facts.ensures.in_tables _
      c.in_ok-answer.ensures.decides
      c.in-Accepted.answer c.in-Accepted.delta c.in-Accepted.is c.commit.new.self c.learn_forms.ensures
      c.commit.ensures.keeps.was c.in_default.ensures.ok c.args.self.now c.is_spent-self-inside.result
      c.in_ok-facts.ensures.frame.fault_behaviour.limits c.in_ok-facts.ensures.frame.same,
)
