use Rattle.thes_links.specs.declared.relation.Relation.TheVariants.{Broader, Narrower}
use Rattle.thes_walks.specs.SideSearch.{AreAlternating, HasFoundCycle, IsSecondResult}
use Rattle.std.proofs.Common.{[], ◌∷◌}
use Rattle.thes_walks.proofs.AdvanceLemmas.{has_start}
use Rattle.thes_walks.proofs.UpwardLinkLemmas.{AreAlternating-start, broken_up, broken_down, up_cost, down_cost}
use Rattle.thes_walks.proofs.upward_link.check_upward_link.Given.{Over}
use Rattle.thes_walks.proofs.upward_link.check_upward_link.Goals as goal
use Rattle.thes_walks.proofs.upward_link.check_upward_link.Goals.{Then-branch, Else-branch}

-- If the searches have met, a chain leads from the high node up to the low one.
met : (g : Over) (c : Then-branch g) → HasFoundCycle c.args.edit.now (g.L.Links.net c.args.links.now).links c.args.low
    c.args.high (g.L.Links.count c.args.links.now) (g.L.Links.count c.search_in_turns.new.links)
met g c =
    (rw c.if-branch.true at c.in_ok-search_in_turns.ensures.continues)
    c.args.low c.args.high (g.L.Links.count c.args.links.now)
    (AreAlternating-start c.args.edit.now (g.L.Links.net c.args.links.now).links
    c.args.low c.args.high (g.L.Links.count c.args.links.now) c.in_ok-up.up c.in_ok-down.down
    (g.L.Links.count c.args.links.now)
    c.in_ok-up.ensures.nodes c.in_ok-up.ensures.unread c.in_ok-down.ensures.nodes c.in_ok-down.ensures.unread)

-- If the searches haven't met, AreAlternating describes their state.
in_turn : (g : Over) (c : Else-branch g) → AreAlternating c.args.edit.now (g.L.Links.net c.args.links.now).links
    c.args.low c.args.high c.search_in_turns.new.up c.search_in_turns.new.down
    (g.L.Links.count c.args.links.now) (g.L.Links.count c.search_in_turns.new.links)
in_turn g c =
    (rw c.if-branch.false at c.in_ok-search_in_turns.ensures.continues)
    c.args.low c.args.high (g.L.Links.count c.args.links.now)
    (AreAlternating-start c.args.edit.now (g.L.Links.net c.args.links.now).links
    c.args.low c.args.high (g.L.Links.count c.args.links.now) c.in_ok-up.up c.in_ok-down.down
    (g.L.Links.count c.args.links.now)
    c.in_ok-up.ensures.nodes c.in_ok-up.ensures.unread c.in_ok-down.ensures.nodes c.in_ok-down.ensures.unread)

pub returns-then-branch-clause-broken : goal.returns-then-branch-clause-broken
returns-then-branch-clause-broken g c = (met g (goal.at.returns-then-branch-clause-broken g c).Then-branch).0

pub returns-then-branch-clause-count : goal.returns-then-branch-clause-count
returns-then-branch-clause-count g c = (met g (goal.at.returns-then-branch-clause-count g c).Then-branch).1

pub returns-then-is_done-clause-broken : goal.returns-then-is_done-clause-broken
returns-then-is_done-clause-broken g c =
    let turn = in_turn g (goal.at.returns-then-is_done-clause-broken g c).Else-branch in
    let rest : IsSecondResult c.args.edit.now (g.L.Links.net c.args.links.now).links Narrower
    c.search_in_turns.new.up.nodes c.args.low c.in_ok-rest.rest =
    (rw c.in_ok-search_in_turns.ensures.net at c.in_ok-rest.ensures.rest) (c.args.high ∷ []) c.args.low turn.1
    (has_start c.args.edit.now (g.L.Links.net c.args.links.now).links Broader (c.args.low ∷ []) c.args.high
    c.search_in_turns.new.up turn.0 turn.2) turn.3 in
    broken_up c.args.edit.now (g.L.Links.net c.args.links.now).links c.args.low c.args.high c.search_in_turns.new.up
    c.search_in_turns.new.down turn.0 c.if-is_done.ensures.done turn.2 c.in_ok-rest.rest rest

pub returns-then-is_done-clause-count : goal.returns-then-is_done-clause-count
returns-then-is_done-clause-count g c =
    let turn = in_turn g (goal.at.returns-then-is_done-clause-count g c).Else-branch in
    up_cost c.args.edit.now (g.L.Links.net c.args.links.now).links c.args.low c.args.high (c.args.low ∷ [])
    (c.args.high ∷ []) c.search_in_turns.new.up c.search_in_turns.new.down turn.0 turn.1
    (g.L.Links.count c.args.links.now) (g.L.Links.count c.search_in_turns.new.links)
    (g.L.Links.count c.check_second_search.new.links) turn.4
    c.if-is_done.ensures.done turn.2
    (λ ns. (rw c.in_ok-search_in_turns.ensures.net at c.in_ok-rest.ensures.count) (c.args.high ∷ []) c.args.low turn.1
    ns (has_start c.args.edit.now (g.L.Links.net c.args.links.now).links Broader (c.args.low ∷ []) c.args.high
    c.search_in_turns.new.up turn.0 turn.2) turn.3)

pub returns-clause-broken : goal.returns-clause-broken
returns-clause-broken g c =
    let turn = in_turn g (goal.at.returns-clause-broken g c).Else-branch in
    let rest : IsSecondResult c.args.edit.now (g.L.Links.net c.args.links.now).links Broader
    c.search_in_turns.new.down.nodes c.args.high c.in_ok-rest-2.rest =
    (rw c.in_ok-search_in_turns.ensures.net at c.in_ok-rest-2.ensures.rest) (c.args.low ∷ []) c.args.high turn.0
    (has_start c.args.edit.now (g.L.Links.net c.args.links.now).links Narrower (c.args.high ∷ []) c.args.low
    c.search_in_turns.new.down turn.1 turn.3) turn.2 in
    broken_down c.args.edit.now (g.L.Links.net c.args.links.now).links c.args.low c.args.high c.search_in_turns.new.down
    turn.1 (c.in_ok-search_in_turns.ensures.done c.if-branch.false c.if-is_done.ensures.done) turn.3
    c.in_ok-rest-2.rest rest

pub returns-clause-count : goal.returns-clause-count
returns-clause-count g c =
    let turn = in_turn g (goal.at.returns-clause-count g c).Else-branch in
    down_cost c.args.edit.now (g.L.Links.net c.args.links.now).links c.args.low c.args.high (c.args.low ∷ [])
    (c.args.high ∷ []) c.search_in_turns.new.up c.search_in_turns.new.down turn.0 turn.1
    (g.L.Links.count c.args.links.now) (g.L.Links.count c.search_in_turns.new.links)
    (g.L.Links.count c.check_second_search-2.new.links) turn.4
    (c.in_ok-search_in_turns.ensures.done c.if-branch.false c.if-is_done.ensures.done) turn.3
    (λ ns. (rw c.in_ok-search_in_turns.ensures.net at c.in_ok-rest-2.ensures.count) (c.args.low ∷ []) c.args.high
    turn.0 ns (has_start c.args.edit.now (g.L.Links.net c.args.links.now).links Narrower (c.args.high ∷ [])
    c.args.low c.search_in_turns.new.down turn.1 turn.3) turn.2)
