use Rattle.std.proofs.Common.{sym}
use Rattle.thes_base.specs.Links.{Holds}
use Rattle.thes_walks.proofs.KindLemmas.{near_low, near_high, only_up, there_up, only_down, there_down, beside_of_up}
use Rattle.thes_walks.proofs.KindLemmas.{beside_of_down, IsFirstOfCycleAndS27-between}
use Rattle.thes_walks.proofs.addition.check_cycle_and_s27.Goals as goal

pub returns-in_ok-answer-in-Forward-clause-checked : goal.returns-in_ok-answer-in-Forward-clause-checked
returns-in_ok-answer-in-Forward-clause-checked g c =
    let up = sym c.in-Forward.ensures in
    record {
      first = IsFirstOfCycleAndS27-between (Holds (g.L.Links.net c.args.links.now).links) c.args.new.now
          c.args.new.now.a c.args.new.now.b
          c.requires.ends (only_up c.args.new.now up) (there_up c.args.new.now up)
          (beside_of_up c.args.new.now.kind up) c.requires.unbroken.0 c.requires.unbroken.1
          c.in_ok-answer-in-Forward.answer c.in_ok-answer-in-Forward.ensures.broken;
      count = λ ns covers. c.in_ok-answer-in-Forward.ensures.count ns (λ n near. covers n
          (near_low (Holds (g.L.Links.net c.args.links.now).links) c.args.new.now c.args.new.now.a c.args.new.now.b
          c.requires.ends (only_up c.args.new.now up) (there_up c.args.new.now up) n near));
    }

pub returns-in_ok-answer-in-Backward-clause-checked : goal.returns-in_ok-answer-in-Backward-clause-checked
returns-in_ok-answer-in-Backward-clause-checked g c =
    let down = sym c.in-Backward.ensures in
    record {
      first = IsFirstOfCycleAndS27-between (Holds (g.L.Links.net c.args.links.now).links) c.args.new.now
          c.args.new.now.b c.args.new.now.a
          (λ e. c.requires.ends (sym e)) (only_down c.args.new.now down) (there_down c.args.new.now down)
          (beside_of_down c.args.new.now.kind down) c.requires.unbroken.0 c.requires.unbroken.1
          c.in_ok-answer-in-Backward.answer c.in_ok-answer-in-Backward.ensures.broken;
      count = λ ns covers. c.in_ok-answer-in-Backward.ensures.count ns (λ n near. covers n
          (near_high (Holds (g.L.Links.net c.args.links.now).links) c.args.new.now c.args.new.now.b c.args.new.now.a
          (λ e. c.requires.ends (sym e)) (only_down c.args.new.now down) (there_down c.args.new.now down) n near));
    }
