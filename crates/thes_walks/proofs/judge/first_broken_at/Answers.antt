use Rattle.std.proofs.Common.{List, ◌+◌, ◌*◌, ◌≤◌, length, arith, None}
use Rattle.thes_base.specs.declared.data.Link.{Link}
use Rattle.thes_links.specs.Rules.{BreaksS46At, KeepsS46At, CoversNear}
use Rattle.thes_links.specs.LinkEdit.{HeldAfter}
use Rattle.thes_walks.specs.SideSearch.{IsBrokenBetween}
use Rattle.thes_walks.proofs.ProbeLemmas.{IsFirstBrokenAt-between, near_pivot}
use Rattle.thes_walks.proofs.judge.first_broken_at.Given.{Over}
use Rattle.thes_walks.proofs.judge.first_broken_at.Goals as goal
use Rattle.thes_walks.proofs.judge.first_broken_at.Goals.{In_ok-breaks_class}

-- The searches and the check of the class of exact matches take at most six visits for each link near the pivot.
cost : (g : Over) (c : In_ok-breaks_class g) (ns : List Link) → CoversNear c.args.edit.now
    (g.L.Links.net c.args.links.now).links c.args.pivot ns
    → g.L.Links.count c.breaks_class.new.links ≤ g.L.Links.count c.args.links.now + 6 * length ns
cost g c ns covers =
    let one : g.L.Links.count c.check_upward_link.new.links ≤ g.L.Links.count c.args.links.now + 4 * length ns =
    c.in_ok-refusal.ensures.count ns
    (λ n near. covers n (near_pivot (HeldAfter c.args.edit.now (g.L.Links.net c.args.links.now).links) c.args.pivot n
    near)) in
    let two : g.L.Links.count c.breaks_class.new.links ≤ g.L.Links.count c.check_upward_link.new.links + 2
    * length ns = c.in_ok-breaks_class.ensures.count ns (rw c.in_ok-refusal.ensures.net covers) in
    omega (arith, one, two)

pub returns-in-Some-clause-first : goal.returns-in-Some-clause-first
returns-in-Some-clause-first g c =
    IsFirstBrokenAt-between (HeldAfter c.args.edit.now (g.L.Links.net c.args.links.now).links) c.args.pivot
    c.in-Some.refusal (rw c.in-Some.is at c.in_ok-refusal.ensures.broken)

pub returns-in-Some-clause-count : goal.returns-in-Some-clause-count
returns-in-Some-clause-count g c ns covers =
    omega (
      arith,
      c.in_ok-refusal.ensures.count ns
          (λ n near. covers n (near_pivot (HeldAfter c.args.edit.now (g.L.Links.net c.args.links.now).links)
          c.args.pivot n near)),
    )

pub returns-then-branch-clause-first : goal.returns-then-branch-clause-first
returns-then-branch-clause-first g c =
    let none : IsBrokenBetween (HeldAfter c.args.edit.now (g.L.Links.net c.args.links.now).links) c.args.pivot
    c.args.pivot
    None = rw c.in-None.is at c.in_ok-refusal.ensures.broken in
    let found : BreaksS46At (HeldAfter c.args.edit.now (g.L.Links.net c.args.links.now).links) c.args.pivot =
    rw (c.if-branch.true, c.in_ok-refusal.ensures.net) at c.in_ok-breaks_class.ensures.found in
    (none.0, none.1, found)

pub returns-then-branch-clause-count : goal.returns-then-branch-clause-count
returns-then-branch-clause-count g c = cost g (goal.at.returns-then-branch-clause-count g c).In_ok-breaks_class

pub returns-clause-first : goal.returns-clause-first
returns-clause-first g c =
    let none : IsBrokenBetween (HeldAfter c.args.edit.now (g.L.Links.net c.args.links.now).links) c.args.pivot
    c.args.pivot
    None = rw c.in-None.is at c.in_ok-refusal.ensures.broken in
    let off : KeepsS46At (HeldAfter c.args.edit.now (g.L.Links.net c.args.links.now).links) c.args.pivot =
    rw (c.if-branch.false, c.in_ok-refusal.ensures.net) at c.in_ok-breaks_class.ensures.found in
    (none.0, none.1, off)

pub returns-clause-count : goal.returns-clause-count
returns-clause-count g c = cost g (goal.at.returns-clause-count g c).In_ok-breaks_class
