use Rattle.std.proofs.Common.{◌∙◌}
use Rattle.thes_plan_postings.proofs.PlanChangeLemmas.{assigned_collected}
use Rattle.thes_plan_postings.proofs.plan_postings.PlanPostings.assigned_from.Goals as goal

pub returns : goal.returns
returns c = assigned_collected c.args.self.now c.args.concept c.args.standing.now c.as_slice.result.now
    c.in_ok-assigned.assigned.items c.new-numbers.result c.insert_assigned.new.numbers c.insert_assigned-2.new.numbers
    c.new-numbers.ensures.empty (c.as_slice.ensures.value ∙ c.in_ok-changed.ensures) c.in_ok-insert_assigned.ensures
    c.in_ok-insert_assigned-2.ensures c.in_ok-assigned.ensures.numbers c.collect_numbers.ensures.rises
