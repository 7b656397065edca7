use Rattle.std.proofs.Common.{refl}
use Rattle.thes_tables.specs.Rows.{row_at_place}
use Rattle.thes_plan_postings.proofs.PlanChangeLemmas.{one_placed}
use Rattle.thes_plan_postings.proofs.plan_postings.PlanPostings.set_place.Goals as goal

pub returns-in_ok-place_all-in-Ok-Some-clause-in_plan : goal.returns-in_ok-place_all-in-Ok-Some-clause-in_plan
returns-in_ok-place_all-in-Ok-Some-clause-in_plan g c up t now is are =
    one_placed t.posting now.posting c.args.self.now c.place_all.new.self c.args.number (record {
      place = c.args.place;
      withdrawn = c.in-Ok-Some.row.withdrawn;
    }) c.in-Ok-Some.row c.in-Ok-Some.field-0 (row_at_place c.args.place) are c.in_ok-place_all-in-Ok-Some.ensures
    c.in-Ok-Some.field-0-is (c.in-Ok-Some.ensures.in_plan up t now.posting is are) refl
