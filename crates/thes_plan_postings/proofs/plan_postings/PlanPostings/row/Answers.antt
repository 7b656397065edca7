use Rattle.std.proofs.Common.{ap, ◌∙◌}
use Rattle.std.specs.Prelude.{Option, option_map}
use Rattle.thes_plan_postings.specs.PlanPostings.{row_placed}
use Rattle.thes_plan_postings.specs.declared.plan_postings.Placement.{Placement}
use Rattle.thes_plan_postings.proofs.PlanPostingLemmas.{row_is}
use Rattle.thes_plan_postings.proofs.plan_postings.PlanPostings.row.Goals as goal

pub returns-in-Ok-clause-in_plan : goal.returns-in-Ok-clause-in_plan
returns-in-Ok-clause-in_plan g c up t rows is are =
    c.place_row.ensures ∙ ap (λ (o : Option Placement). option_map (row_placed o) c.in-Ok.row) c.placement.ensures
    ∙ row_is t.posting rows c.args.self.now are c.args.number c.in-Ok.row (c.in-Ok.ensures.in_base up t rows is are)
