use Rattle.std.proofs.Common.{◌-◌, ℕ, arith, true, false}
use Rattle.thes_links.specs.declared.edit.LinkEdit.TheVariants.{NoEdit}
use Rattle.thes_walks.specs.SideSearch.{ContinuesSearch}
use Rattle.thes_walks.specs.PairedSearch.{ArePairedSearches}
use Rattle.thes_walks.proofs.PairedSearchLemmas.{converse_is_hierarchy, first_turn, second_turn}
use Rattle.thes_walks.proofs.paired_search.take_paired_turns.Given.{Over}
use Rattle.thes_walks.proofs.paired_search.take_paired_turns.Goals as goal
use Rattle.thes_walks.proofs.paired_search.take_paired_turns.Goals.{Else-branch}

pub advance_second-requires : goal.advance_second-requires
advance_second-requires g c =
    rw c.converse_of-back.ensures (converse_is_hierarchy c.args.relation c.requires)

-- If the searches haven't met in the turn of the second, ArePairedSearches describes their state.
on : (g : Over) (c : Else-branch g) (from to before : ℕ)
    → ArePairedSearches (g.L.Links.net c.args.links.now).links c.args.relation from to c.args.paired.now.first
    c.args.paired.now.second c.args.paired.now.allowance before (g.L.Links.count c.args.links.now)
    → ArePairedSearches (g.L.Links.net c.args.links.now).links c.args.relation from to c.args.paired.now.first
    c.advance_second.new.second c.advance_second.new.allowance before (g.L.Links.count c.advance_second.new.links)
on g c from to before =
    second_turn (g.L.Links.net c.args.links.now).links c.args.relation c.requires from to before
    c.args.paired.now.first c.args.paired.now.second c.advance_second.new.second c.args.paired.now.allowance
    c.advance_second.new.allowance (g.L.Links.count c.args.links.now)
    (g.L.Links.count c.advance_second.new.links) false c.in_ok-advance_second.ensures.allowance
    c.in_ok-advance_second.ensures.count
    (rw (c.if-branch.false, c.converse_of-back.ensures) at c.in_ok-advance_second.ensures.continues)

pub returns-then-branch-clause-continues : goal.returns-then-branch-clause-continues
returns-then-branch-clause-continues g c from to before =
    second_turn (g.L.Links.net c.args.links.now).links c.args.relation c.requires from to before
    c.args.paired.now.first c.args.paired.now.second c.advance_second.new.second c.args.paired.now.allowance
    c.advance_second.new.allowance (g.L.Links.count c.args.links.now)
    (g.L.Links.count c.advance_second.new.links) true c.in_ok-advance_second.ensures.allowance
    c.in_ok-advance_second.ensures.count
    (rw (c.if-branch.true, c.converse_of-back.ensures) at c.in_ok-advance_second.ensures.continues)

pub returns-then-not-is_done-clause-continues : goal.returns-then-not-is_done-clause-continues
returns-then-not-is_done-clause-continues g c from to before are =
    let then : ContinuesSearch NoEdit (g.L.Links.net c.args.links.now).links c.args.relation
    c.advance_second.new.second.nodes c.args.paired.now.first c.advance_first.new.first
    (g.L.Links.count c.advance_first.new.links - g.L.Links.count c.advance_second.new.links) c.in_ok-turn.turn.0 =
    rw c.in_ok-advance_second.ensures.net at c.in_ok-turn.ensures.continues in
    first_turn (g.L.Links.net c.args.links.now).links c.args.relation c.requires from to before c.args.paired.now.first
    c.advance_first.new.first c.advance_second.new.second c.advance_second.new.allowance
    c.saturating_add-allowance.result (g.L.Links.count c.advance_second.new.links)
    (g.L.Links.count c.advance_first.new.links) c.in_ok-turn.turn.0
    (omega (arith, c.saturating_add-allowance.ensures, c.in_ok-turn.ensures.read)) then
    (on g (goal.at.returns-then-not-is_done-clause-continues g c).Else-branch from to before are)

pub returns-clause-continues : goal.returns-clause-continues
returns-clause-continues g c = on g (goal.at.returns-clause-continues g c).Else-branch
