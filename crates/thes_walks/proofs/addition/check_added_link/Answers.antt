use Rattle.std.proofs.Common.{List, ◌+◌, ◌*◌, ◌≤◌, length, arith, None}
use Rattle.thes_base.specs.declared.data.Link.{Link}
use Rattle.thes_base.specs.Links.{S46}
use Rattle.thes_links.specs.declared.edit.LinkEdit.TheVariants.{WithLink}
use Rattle.thes_links.specs.LinkEdit.{HeldAfter}
use Rattle.thes_links.specs.Rules.{IsFirstOfCycleAndS27, CoversNear, BreaksS46}
use Rattle.thes_walks.proofs.KindLemmas.{IsFirstBroken-two}
use Rattle.thes_walks.proofs.addition.check_added_link.Given.{Over}
use Rattle.thes_walks.proofs.addition.check_added_link.Goals as goal
use Rattle.thes_walks.proofs.addition.check_added_link.Goals.{In_ok-breaks_s46}

-- The searches and the check of the class of exact matches take at most six visits for each link near the new one.
cost : (g : Over) (c : In_ok-breaks_s46 g) (ns : List Link) → CoversNear (WithLink c.args.new.now)
    (g.L.Links.net c.args.links.now).links c.args.new.now.a ns
    → g.L.Links.count c.breaks_s46.new.links ≤ g.L.Links.count c.args.links.now + 6 * length ns
cost g c ns covers =
    let one : g.L.Links.count c.check_cycle_and_s27.new.links ≤ g.L.Links.count c.args.links.now + 4 * length ns =
    c.in_ok-refusal.ensures.checked.count ns covers in
    let two : g.L.Links.count c.breaks_s46.new.links ≤ g.L.Links.count c.check_cycle_and_s27.new.links + 2
    * length ns = c.in_ok-breaks_s46.ensures.count ns (rw c.in_ok-refusal.ensures.net covers) in
    omega (arith, one, two)

pub returns-in-Some-clause-first : goal.returns-in-Some-clause-first
returns-in-Some-clause-first g c =
    IsFirstBroken-two (HeldAfter (WithLink c.args.new.now) (g.L.Links.net c.args.links.now).links) c.in-Some.refusal
    (rw c.in-Some.is at c.in_ok-refusal.ensures.checked.first)

pub returns-then-branch-clause-first : goal.returns-then-branch-clause-first
returns-then-branch-clause-first g c =
    let two : IsFirstOfCycleAndS27 (HeldAfter (WithLink c.args.new.now) (g.L.Links.net c.args.links.now).links) None =
    rw c.in-None.is at c.in_ok-refusal.ensures.checked.first in
    let found : BreaksS46 (HeldAfter (WithLink c.args.new.now) (g.L.Links.net c.args.links.now).links) =
    rw (c.if-branch.true, c.in_ok-refusal.ensures.net) at c.in_ok-breaks_s46.ensures.s46 in
    (two.0, two.1, found)

pub returns-then-branch-clause-count : goal.returns-then-branch-clause-count
returns-then-branch-clause-count g c = cost g (goal.at.returns-then-branch-clause-count g c).In_ok-breaks_s46

pub returns-clause-first : goal.returns-clause-first
returns-clause-first g c =
    let two : IsFirstOfCycleAndS27 (HeldAfter (WithLink c.args.new.now) (g.L.Links.net c.args.links.now).links) None =
    rw c.in-None.is at c.in_ok-refusal.ensures.checked.first in
    let off : S46 (HeldAfter (WithLink c.args.new.now) (g.L.Links.net c.args.links.now).links) =
    rw (c.if-branch.false, c.in_ok-refusal.ensures.net) at c.in_ok-breaks_s46.ensures.s46 in
    (two.0, two.1, off)

pub returns-clause-count : goal.returns-clause-count
returns-clause-count g c = cost g (goal.at.returns-clause-count g c).In_ok-breaks_s46
