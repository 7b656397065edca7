use Rattle.std.proofs.Common.{ap, subst, sym, ◌∙◌}
use Rattle.std.specs.Prelude.{Option, Some, option_map}
use Rattle.thes_store.specs.Reading.{IsPostingOfKey}
use Rattle.thes_plan_postings.specs.PlanPostings.{row_placed}
use Rattle.thes_plan_postings.specs.declared.plan_postings.Placement.{Placement}
use Rattle.thes_plan_postings.proofs.PlanPostingLemmas.{no_row_of_key, row_of_key_is}
use Rattle.thes_plan_postings.proofs.plan_postings.PlanPostings.find.Goals as goal

pub returns-in-Ok-Some-clause-in_plan : goal.returns-in-Ok-Some-clause-in_plan
returns-in-Ok-Some-clause-in_plan g c up t rows is are =
    subst (IsPostingOfKey c.args.key.now rows)
    (sym (c.place_row.ensures ∙ ap (λ (o : Option Placement). option_map (row_placed o) (Some c.in-Ok-Some.row))
    c.placement-placement.ensures))
    (row_of_key_is t.posting rows c.args.self.now are c.args.key.now c.in-Ok-Some.row
    (subst (IsPostingOfKey c.args.key.now _) c.in-Ok-Some.field-0-is (c.in-Ok-Some.ensures.in_base up t rows is are)))

pub returns-in-Ok-None-clause-in_plan : goal.returns-in-Ok-None-clause-in_plan
returns-in-Ok-None-clause-in_plan g c up t rows is are =
    no_row_of_key t.posting rows c.args.self.now are c.args.key.now
    (subst (IsPostingOfKey c.args.key.now _) c.in-Ok-None.field-0-is (c.in-Ok-None.ensures.in_base up t rows is are))
