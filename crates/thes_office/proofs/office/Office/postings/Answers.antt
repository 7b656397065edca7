use Rattle.std.proofs.Common.{◌≡◌, ap, sym, ◌∙◌, inl, inr, rules, arith}
use Rattle.thes_base.specs.declared.fault.Fault.TheVariants as faults
use Rattle.thes_office.specs.Office.{OfficeView}
use Rattle.thes_office.proofs.StateTableLemmas.{same_tables_same_state}
use Rattle.thes_office.proofs.StepLemmas.{copies_own}
use Rattle.thes_office.proofs.OfficeViewLemmas.{has_failed, consistent_after_query, never_falls}
use Rattle.thes_office.proofs.PostingListLemmas.{takes_none}
use Rattle.thes_office.proofs.office.Office.postings.Goals as goal

pub returns-in-Err-clause-lists : goal.returns-in-Err-clause-lists
returns-in-Err-clause-lists g c up base s x = grind (arith, takes_none)

pub list-requires-clause-copies : goal.list-requires-clause-copies
list-requires-clause-copies g c up =
    copies_own (g.K.Keeper.view c.self.inside.keeper).rows c.self.inside.limits c.self.inside.core
    (c.self.invariant.copies (ap (λ (d : OfficeView _). d.stale) c.self.view_is ∙ c.in_default.ensures.fresh) up)

pub invariant_of-self : goal.invariant_of-self
invariant_of-self g c =
    consistent_after_query g.K.Keeper.view c.self.inside.keeper c.list.new.keeper
    c.self.inside.core c.self.inside.limits c.self.inside.stale c.self.inside.stale
    c.self.invariant (never_falls _ _ _ c.list.ensures.asks.cause) (λ e. inl e) (λ e. e) c.list.ensures.asks.was
    c.list.ensures.asks.same

pub invariant_of-self-in-Err-list : goal.invariant_of-self-in-Err-list
invariant_of-self-in-Err-list g c =
    consistent_after_query g.K.Keeper.view c.self.inside.keeper c.list.new.keeper
    c.self.inside.core c.self.inside.limits c.self.inside.stale c.eq-self-inside.result
    c.self.invariant (never_falls _ _ _ c.list.ensures.asks.cause)
    (λ e. let is : c.in-Err-list.fault ≡ faults.Store = search rules in
    inr (has_failed _ _ _ c.in-Err-list.ensures.asks.cause is))
    (λ e. ap (λ (d : OfficeView _). d.stale) c.self.view_is ∙ c.in_default.ensures.fresh) c.list.ensures.asks.was
    c.list.ensures.asks.same

pub returns-in-Err-list-clause-lists : goal.returns-in-Err-list-clause-lists
returns-in-Err-list-clause-lists g c up base s x =
    c.in-Err-list.ensures.lists up base s (same_tables_same_state (g.K.Keeper.view c.list.new.keeper).rows
    (g.K.Keeper.view c.self.inside.keeper).rows base s (sym (c.list.ensures.asks.same up)) x)
