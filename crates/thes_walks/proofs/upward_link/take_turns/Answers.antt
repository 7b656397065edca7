use Rattle.std.proofs.Common.{◌-◌, true, false}
use Rattle.thes_links.specs.declared.relation.Relation.TheVariants.{Narrower}
use Rattle.thes_walks.specs.SideSearch.{ContinuesSearch, AreAlternating}
use Rattle.thes_walks.proofs.UpwardLinkLemmas.{turn_up, turn_down}
use Rattle.thes_walks.proofs.upward_link.take_turns.Goals as goal

pub returns-then-branch-clause-continues : goal.returns-then-branch-clause-continues
returns-then-branch-clause-continues g c low high from before =
    turn_up c.args.edit.now (g.L.Links.net c.args.links.now).links low high from c.args.up.now c.args.down.now
    c.advance_to.new.self (g.L.Links.count c.args.links.now) (g.L.Links.count c.advance_to.new.links) true
    (rw c.if-branch.true at c.in_ok-advance_to.ensures.continues) before

pub returns-clause-continues : goal.returns-clause-continues
returns-clause-continues g c low high from before =
    turn_up c.args.edit.now (g.L.Links.net c.args.links.now).links low high from c.args.up.now c.args.down.now
    c.advance_to.new.self (g.L.Links.count c.args.links.now) (g.L.Links.count c.advance_to.new.links) false
    (rw c.if-branch.false at c.in_ok-advance_to.ensures.continues) before

pub returns-then-not-is_done-clause-continues : goal.returns-then-not-is_done-clause-continues
returns-then-not-is_done-clause-continues g c low high from before =
    let first : AreAlternating c.args.edit.now (g.L.Links.net c.args.links.now).links low high c.advance_to.new.self
    c.args.down.now from (g.L.Links.count c.advance_to.new.links) =
    turn_up c.args.edit.now (g.L.Links.net c.args.links.now).links low high from c.args.up.now c.args.down.now
    c.advance_to.new.self (g.L.Links.count c.args.links.now) (g.L.Links.count c.advance_to.new.links) false
    (rw c.if-branch.false at c.in_ok-advance_to.ensures.continues) before in
    let then : ContinuesSearch c.args.edit.now (g.L.Links.net c.args.links.now).links Narrower
    c.advance_to.new.self.nodes c.args.down.now c.advance_to-then-not-is_done.new.self
    (g.L.Links.count c.advance_to-then-not-is_done.new.links - g.L.Links.count c.advance_to.new.links) c.in_ok-met.met =
    rw c.in_ok-advance_to.ensures.net at c.in_ok-met.ensures.continues in
    turn_down c.args.edit.now (g.L.Links.net c.args.links.now).links low high from c.advance_to.new.self
    c.args.down.now c.advance_to-then-not-is_done.new.self (g.L.Links.count c.advance_to.new.links)
    (g.L.Links.count c.advance_to-then-not-is_done.new.links) c.in_ok-met.met then first
