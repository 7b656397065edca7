use Rattle.std.proofs.Common.{rules, refl}
use Rattle.thes_plan_postings.proofs.PlanChangeLemmas.{adds_posting}
use Rattle.thes_plan_postings.proofs.plan_postings.PlanPostings.add.Goals as goal

pub returns : goal.returns
returns c = adds_posting c.args.self.now (record {
  alloc = c.args.self.now.alloc;
  added = c.push.new.self;
  placements = c.insert.new.self;
}) c.args.row.now c.in_ok-try_clone.field-0 _ c.in_ok-try_clone.ensures (search rules) c.in_ok-insert.ensures.updates.0
    refl
