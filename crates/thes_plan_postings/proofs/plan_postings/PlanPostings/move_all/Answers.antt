use Rattle.std.proofs.Common.{◌∙◌}
use Rattle.thes_plan_postings.proofs.PlanChangeLemmas.{all_moved}
use Rattle.thes_plan_postings.proofs.plan_postings.PlanPostings.move_all.Goals as goal

pub returns-in_ok-place_all-in-Ok-clause-in_plan : goal.returns-in_ok-place_all-in-Ok-clause-in_plan
returns-in_ok-place_all-in-Ok-clause-in_plan g c up t now is are =
    all_moved t.posting now.posting c.args.self.now c.place_all.new.self c.args.source c.args.target
    c.as_slice.result.now are (c.as_slice.ensures.value ∙ c.in-Ok.ensures.in_plan up t now.posting is are)
    c.in_ok-place_all-in-Ok.ensures
