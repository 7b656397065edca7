use Rattle.std.proofs.Common.{subst, sym, ◌∙◌, List}
use Rattle.thes_tables.specs.declared.change.Change.{Change}
use Rattle.thes_tables.specs.declared.rows.PostingRow.{PostingRow}
use Rattle.thes_tables.specs.Rows.{DeltaFits, tables_after_delta}
use Rattle.thes_plan_postings.specs.declared.plan_postings.PlanPostings.{PlanPostings}
use Rattle.thes_plan_postings.specs.PlanPostings.{ArePlanRows}
use Rattle.thes_office.proofs.PlanDecisionLemmas.{drop_front}
use Rattle.thes_office.proofs.plan.decide_and_record.Goals as goal

pub returns-in-Ok-record_changes-clause-decides : goal.returns-in-Ok-record_changes-clause-decides
returns-in-Ok-record_changes-clause-decides g c =
    let d = c.in_ok-decide_and_log.ensures.decides in (
      d.0,
      d.1,
      λ up t now s is rows holds are.
          let was = c.in-Ok-record_changes.ensures.asks.was up in
          let first = d.2 s holds (c.in-Ok.ensures.in_plan was t c.args.core.now.setting.base s is holds.legal
          (subst (λ (l : List PostingRow). ArePlanRows t.posting l c.args.progress.now.postings) rows.posting are)) in
          let part = c.changes_from-changes.ensures ∙ drop_front c.args.progress.now.decided.delta
          first.decided.changes c.decide_and_log.new.progress.decided.delta c.change_count-before.result
          first.decided.more
          c.change_count-before.ensures in
          let recorded = c.in-Ok-record_changes.ensures.in_plan up t now (c.in-Ok.ensures.asks.same was ∙ is)
          (subst (λ (l : List Change). DeltaFits l now) (sym part) (first.decided.leads.fit now rows))
          (subst (λ (p : PlanPostings). ArePlanRows t.posting now.posting p)
          (sym c.in_ok-decide_and_log.ensures.kept) are) in
          record {
            decision = record { decided = first.decided; steps = first.steps };
            postings_are = subst (λ (l : List Change). ArePlanRows t.posting (tables_after_delta l now).posting
                c.record_changes.new.self) part recorded;
          },
    )
