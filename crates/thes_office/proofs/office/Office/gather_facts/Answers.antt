use Rattle.std.proofs.Common.{◌≡◌, ap, sym, ◌∙◌, inl, inr, rules}
use Rattle.thes_base.specs.declared.fault.Fault.TheVariants as faults
use Rattle.thes_office.specs.Office.{OfficeView}
use Rattle.thes_office.proofs.StateTableLemmas.{same_tables_same_state}
use Rattle.thes_office.proofs.OfficeViewLemmas.{has_failed, consistent_after_query, never_falls}
use Rattle.thes_office.proofs.office.Office.gather_facts.Goals as goal

pub invariant_of-self : goal.invariant_of-self
invariant_of-self g c =
    consistent_after_query g.K.Keeper.view c.self.inside.keeper
    c.facts_of.new.keeper c.self.inside.core c.self.inside.limits c.self.inside.stale c.self.inside.stale
    c.self.invariant (never_falls _ _ _ c.facts_of.ensures.asks.cause) (λ e. inl e) (λ e. e)
    c.facts_of.ensures.asks.was c.facts_of.ensures.asks.same

pub invariant_of-self-in-Err : goal.invariant_of-self-in-Err
invariant_of-self-in-Err g c =
    consistent_after_query g.K.Keeper.view c.self.inside.keeper
    c.facts_of.new.keeper c.self.inside.core c.self.inside.limits c.self.inside.stale c.eq-self-inside.result
    c.self.invariant (never_falls _ _ _ c.facts_of.ensures.asks.cause)
    (λ e. let is : c.in-Err.fault ≡ faults.Store = search rules in
    inr (has_failed _ _ _ c.in-Err.ensures.asks.cause is)) (λ e. ap (λ (d : OfficeView _). d.stale) c.self.view_is
    ∙ c.in_ok-refresh.ensures.fresh) c.facts_of.ensures.asks.was c.facts_of.ensures.asks.same

pub returns-in-Ok-clause-in_tables : goal.returns-in-Ok-clause-in_tables
returns-in-Ok-clause-in_tables g c up base s x =
    c.in-Ok.ensures.in_tables up base s (same_tables_same_state (g.K.Keeper.view c.facts_of.new.keeper).rows
    (g.K.Keeper.view c.self.inside.keeper).rows base s (sym (c.facts_of.ensures.asks.same up)) x)
