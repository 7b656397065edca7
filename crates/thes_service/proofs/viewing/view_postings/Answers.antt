use Rattle.std.proofs.Common.{◌∙◌}
use Rattle.thes_office.proofs.OfficeViewLemmas.{behaviour_with_value}
use Rattle.thes_service.proofs.StateViewLemmas.{listing_viewed, refusal_viewed}
use Rattle.thes_service.proofs.viewing.view_postings.Goals as goal

pub returns-in_ok-into_line-in-Ok-None : goal.returns-in_ok-into_line-in-Ok-None
returns-in_ok-into_line-in-Ok-None g c = record {
  fault_behaviour = behaviour_with_value g.K.Keeper.view c.args.office.now c.postings.new.self
      c.in-Ok-None.field-0 _ c.in-Ok-None.ensures.frame.fault_behaviour;
  same = c.in-Ok-None.ensures.frame.same;
  viewed = λ up.
      listing_viewed (g.K.Keeper.view c.postings.new.self.keeper).rows c.args.concept c.new-rows.result
      c.postings.new.sink
      c.in-Ok-None.field-0 c.new.result c.in-Ok-None.field-0-is (c.in-Ok-None.ensures.lists up) c.new-rows.ensures
      (c.new.ensures ∙ c.in_ok-into_line-in-Ok-None.ensures);
}

pub returns-in-Ok-Some : goal.returns-in-Ok-Some
returns-in-Ok-Some g c = record {
  fault_behaviour = behaviour_with_value g.K.Keeper.view c.args.office.now c.postings.new.self
      c.in-Ok-Some.field-0 _ c.in-Ok-Some.ensures.frame.fault_behaviour;
  same = c.in-Ok-Some.ensures.frame.same;
  viewed = λ up.
      refusal_viewed (g.K.Keeper.view c.postings.new.self.keeper).rows c.args.concept c.new-rows.result
      c.postings.new.sink
      c.in-Ok-Some.field-0 c.in-Ok-Some.refusal c.in-Ok-Some.field-0-is (c.in-Ok-Some.ensures.lists up);
}
