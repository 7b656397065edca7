use Rattle.std.proofs.Common.{arith, refl}
use Rattle.thes_office.proofs.StepLemmas.{copies_over}
use Rattle.thes_office.proofs.OfficeViewLemmas.{consistent_after_load}
use Rattle.thes_office.proofs.office.Office.start.Goals as goal

pub invariant_of-result : goal.invariant_of-result
invariant_of-result g c =
    consistent_after_load g.K.Keeper.view c.args.keeper c.load.new.keeper
    c.in-Ok.core c.args.limits
    record {
      resources = omega arith;
      labels = omega arith;
      links = omega arith;
      postings = omega arith;
      moves = omega arith;
    }
    c.in-Ok.ensures.ok.unspent c.in-Ok.ensures.ok.copy c.in-Ok.ensures.reads.same

pub returns-in-Ok-clause-opened : goal.returns-in-Ok-clause-opened
returns-in-Ok-clause-opened g c =
    let reads = c.in-Ok.ensures.reads in record {
      limits_are = refl;
      fresh = refl;
      keeps = record { same = reads.same; was = reads.was; count = reads.count };
      shows = λ up. let here = copies_over (g.K.Keeper.view c.args.keeper).rows
          (g.K.Keeper.view c.load.new.keeper).rows c.args.limits
          c.in-Ok.core (reads.same up) (c.in-Ok.ensures.ok.copy up) in
          (c.in-Ok.core.setting.base, here.state, here.shows);
    }

pub returns-in-Ok-clause-found : goal.returns-in-Ok-clause-found
returns-in-Ok-clause-found g c up =
    let here = c.in-Ok.ensures.ok.copy_of_found up in
    (here.0, here.1, (c.in-Ok.core.setting.base, here.2.state, here.2.shows))
