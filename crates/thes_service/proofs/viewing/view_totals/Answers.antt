use Rattle.thes_requests.specs.declared.request.Query.TheVariants as asked
use Rattle.thes_office.proofs.OfficeViewLemmas.{behaviour_with_value}
use Rattle.thes_service.proofs.viewing.view_totals.Goals as goal

pub returns-in_ok-query_answer-in-Ok : goal.returns-in_ok-query_answer-in-Ok
returns-in_ok-query_answer-in-Ok g c = record {
  fault_behaviour = behaviour_with_value g.K.Keeper.view c.args.office.now c.totals.new.self
      c.in-Ok.totals c.in_ok-query_answer-in-Ok.field-0 c.in-Ok.ensures.frame.fault_behaviour;
  same = c.in-Ok.ensures.frame.same;
  viewed = λ up base s x. c.in_ok-query_answer-in-Ok.ensures s asked.Totals (c.in-Ok.ensures.in_tables up base s x);
}
