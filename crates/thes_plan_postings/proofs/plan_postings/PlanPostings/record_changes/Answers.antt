use Rattle.std.proofs.Common.{arith, subst, sym, take, List, ◌∙◌}
use Rattle.std.proofs.lemmas.List.{take_all}
use Rattle.thes_tables.specs.declared.change.Change.{Change}
use Rattle.thes_tables.specs.Rows.{tables_after_delta}
use Rattle.thes_tables.specs.Tables.{Tables}
use Rattle.thes_store.proofs.StorageLemmas.{kept_after}
use Rattle.thes_plan_postings.specs.PlanPostings.{ArePlanRows}
use Rattle.thes_plan_postings.proofs.PlanChangeLemmas.{fits_at, one_more_change}
use Rattle.thes_plan_postings.proofs.plan_postings.PlanPostings.record_changes.Goals as goal

pub loop-change-preserved : goal.loop-change-preserved
loop-change-preserved g c = record {
  keeps = kept_after _ _ _ c.loop-change.invariant.keeps _ c.in-Ok.ensures.asks;
  recorded = λ up t now is fits are.
      let was = c.in-Ok.ensures.asks.was up in
      let i = c.loop-change.change-index in
      let mid = c.loop-change.invariant.recorded was t now is fits are in
      subst (λ (x : Tables). ArePlanRows t.posting x.posting c.record_change.new.self)
      (sym (one_more_change c.args.changes.now i c.change-item.result now (omega arith) c.change-item.is))
      (c.in-Ok.ensures.in_plan up t (tables_after_delta (take i c.args.changes.now) now)
      (c.loop-change.invariant.keeps.same was ∙ is)
      (fits_at c.args.changes.now i c.change-item.result now (omega arith) c.change-item.is fits) mid);
}

pub returns-clause-in_plan : goal.returns-clause-in_plan
returns-clause-in_plan g c up t now is fits are =
    subst (λ (l : List Change). ArePlanRows t.posting (tables_after_delta l now).posting c.loop-change.self)
    (take_all c.loop-change.change-index c.args.changes.now (omega arith))
    (c.loop-change.invariant.recorded up t now is fits are)
