use Rattle.std.proofs.Common.{◌+◌, ◌*◌, ◌≤◌, List, length, arith}
use Rattle.thes_base.specs.declared.data.Link.{Link}
use Rattle.thes_base.specs.Links.{Holds}
use Rattle.thes_links.specs.declared.edit.LinkEdit.TheVariants.{WithLink}
use Rattle.thes_links.specs.Rules.{CoversNear}
use Rattle.thes_walks.specs.PairedSearch.{HasEndAbove, HasNoEndAbove}
use Rattle.thes_walks.proofs.KindLemmas.{near_level, IsFirstOfCycleAndS27-kept, IsFirstOfCycleAndS27-above}
use Rattle.thes_walks.proofs.KindLemmas.{IsFirstOfCycleAndS27-apart}
use Rattle.thes_walks.proofs.addition.check_level_link.Given.{Over}
use Rattle.thes_walks.proofs.addition.check_level_link.Goals as goal
use Rattle.thes_walks.proofs.addition.check_level_link.Goals.{In_ok-has_end_above}

-- The searches take at most four visits for each link near the new one.
cost : (g : Over) (c : In_ok-has_end_above g) (ns : List Link) → CoversNear (WithLink c.args.new.now)
    (g.L.Links.net c.args.links.now).links c.args.new.now.a ns
    → g.L.Links.count c.has_end_above.new.links ≤ g.L.Links.count c.args.links.now + 4 * length ns
cost g c ns covers =
    c.in_ok-has_end_above.ensures.count ns
    (λ n near. covers n (near_level (Holds (g.L.Links.net c.args.links.now).links) c.args.new.now c.requires.level
    c.args.new.now.a n near))

pub returns-then-not-relates-clause-checked : goal.returns-then-not-relates-clause-checked
returns-then-not-relates-clause-checked g c = record {
  first = IsFirstOfCycleAndS27-kept (Holds (g.L.Links.net c.args.links.now).links) c.args.new.now c.requires.level
      c.if-not-relates.ensures c.requires.sound.unbroken.0 c.requires.sound.unbroken.1;
  count = λ ns covers. omega arith;
}

pub returns-then-branch-clause-checked : goal.returns-then-branch-clause-checked
returns-then-branch-clause-checked g c =
    let above : HasEndAbove (Holds (g.L.Links.net c.args.links.now).links) c.args.new.now =
    rw c.if-branch.true at c.in_ok-has_end_above.ensures.above in
    record {
      first = IsFirstOfCycleAndS27-above (Holds (g.L.Links.net c.args.links.now).links) c.args.new.now
          c.requires.level c.requires.sound.ends
          c.if-not-relates.ensures c.requires.sound.unbroken.0 above;
      count = cost g (goal.at.returns-then-branch-clause-checked g c).In_ok-has_end_above;
    }

pub returns-clause-checked : goal.returns-clause-checked
returns-clause-checked g c =
    let apart : HasNoEndAbove (Holds (g.L.Links.net c.args.links.now).links) c.args.new.now =
    rw c.if-branch.false at c.in_ok-has_end_above.ensures.above in
    record {
      first = IsFirstOfCycleAndS27-apart (Holds (g.L.Links.net c.args.links.now).links) c.args.new.now
          c.requires.level c.requires.sound.ends
          c.if-not-relates.ensures c.requires.sound.unbroken.0 c.requires.sound.unbroken.1 apart;
      count = cost g (goal.at.returns-clause-checked g c).In_ok-has_end_above;
    }
