use Rattle.std.proofs.Common.{arith, refl}
use Rattle.thes_plan_postings.proofs.PlanChangeLemmas.{places_more}
use Rattle.thes_plan_postings.proofs.plan_postings.PlanPostings.place_all.Goals as goal

pub loop-number-preserved : goal.loop-number-preserved
loop-number-preserved c = places_more c.args.self.now c.loop-number.self (record {
  alloc = c.loop-number.self.alloc;
  added = c.loop-number.self.added;
  placements = c.insert.new.self;
}) c.args.numbers.now c.loop-number.number-index c.number-item.result (record {
  place = c.args.place;
  withdrawn = c.args.withdrawn;
}) (omega arith) c.number-item.is c.loop-number.invariant c.in_ok-insert.ensures.updates.0 refl
