use Rattle.std.proofs.Common.{subst, sym}
use Rattle.thes_tables.specs.declared.change.Change.{Change}
use Rattle.thes_tables.specs.Rows.{ChangeFits, tables_after_change}
use Rattle.thes_plan_postings.specs.PlanPostings.{ArePlanRows}
use Rattle.thes_plan_postings.proofs.PlanChangeLemmas.{on_ok, row_added}
use Rattle.thes_plan_postings.proofs.plan_postings.PlanPostings.record_change.Goals as goal

pub returns-in_ok-add-in-AddPosting-clause-in_plan : goal.returns-in_ok-add-in-AddPosting-clause-in_plan
returns-in_ok-add-in-AddPosting-clause-in_plan g c up t now is fits are =
    subst (λ (d : Change). ArePlanRows t.posting (tables_after_change d now).posting c.add.new.self)
    (sym c.in-AddPosting.is)
    (row_added t.posting now.posting c.args.self.now c.add.new.self c.in-AddPosting.row are
    c.in_ok-add-in-AddPosting.ensures (subst (λ (d : Change). ChangeFits d now) c.in-AddPosting.is fits).0)

pub returns-in-Withdraw-clause-in_plan : goal.returns-in-Withdraw-clause-in_plan
returns-in-Withdraw-clause-in_plan g c =
    on_ok c.withdraw.result (λ in_plan up t now is fits are. subst (λ (d : Change). ArePlanRows t.posting
    (tables_after_change d now).posting c.withdraw.new.self) (sym c.in-Withdraw.is) (in_plan up t now is are))
    c.withdraw.ensures.in_plan

pub returns-in-SetPlace-clause-in_plan : goal.returns-in-SetPlace-clause-in_plan
returns-in-SetPlace-clause-in_plan g c =
    on_ok c.set_place.result (λ in_plan up t now is fits are. subst (λ (d : Change). ArePlanRows t.posting
    (tables_after_change d now).posting c.set_place.new.self) (sym c.in-SetPlace.is) (in_plan up t now is are))
    c.set_place.ensures.in_plan

pub returns-in-MoveAll-clause-in_plan : goal.returns-in-MoveAll-clause-in_plan
returns-in-MoveAll-clause-in_plan g c =
    on_ok c.move_all.result (λ in_plan up t now is fits are. subst (λ (d : Change). ArePlanRows t.posting
    (tables_after_change d now).posting c.move_all.new.self) (sym c.in-MoveAll.is) (in_plan up t now is are))
    c.move_all.ensures.in_plan
