use Rattle.std.proofs.Common.{◌+◌, ◌≤◌, ℕ, true, false, arith, sum_by, refl, sym}
use Rattle.thes_links.specs.declared.edit.LinkEdit.TheVariants.{AfterMerge}
use Rattle.thes_links.specs.LinkEdit.{HeldAfter}
use Rattle.thes_links.specs.Side.{side_in}
use Rattle.thes_links.specs.Steps.{Steps}
use Rattle.thes_walks.specs.SideSearch.{LeadsFrom, IsSearchResult, one_on_side, CanFollowAt}
use Rattle.thes_links.proofs.ReadLemmas.{node_after-source, node_after-stays}
use Rattle.thes_walks.proofs.SideSearchLemmas.{IsSearchResult-then, Steps-sound}
use Rattle.thes_walks.proofs.MergeStepLemmas.{Steps-target, CoversSide-target, target_cost}
use Rattle.thes_walks.proofs.side_search.follow_merged.Given.{Over}
use Rattle.thes_walks.proofs.side_search.follow_merged.Goals as goal
use Rattle.thes_walks.proofs.side_search.follow_merged.Goals.{In_ok-follow, In_ok-found}

-- The links held at the target can be followed, and so can those held at the source, which are the target's after the
-- merge.
at_target : (g : Over) (c : In_ok-follow g) → CanFollowAt (AfterMerge c.args.merge.source c.args.merge.target)
    (g.L.Links.net c.args.links.now).links (g.L.Links.links_of (g.L.Links.net c.args.links.now) c.args.merge.target)
    c.args.relation c.args.merge.target c.args.merge.target c.args.merge.part
at_target g c = record {
  one_side = c.requires.one_side;
  replaces = node_after-stays c.args.merge.source c.args.merge.target c.requires.fit c.args.merge.target
      c.args.merge.target
      (λ same. c.requires.fit (sym same)) refl;
  ready = c.requires.ready;
}

at_source : (g : Over) (c : In_ok-found g) → CanFollowAt (AfterMerge c.args.merge.source c.args.merge.target)
    (g.L.Links.net c.follow.new.links).links (g.L.Links.links_of (g.L.Links.net c.follow.new.links) c.args.merge.source)
    c.args.relation c.args.merge.source c.args.merge.target c.part_along-more.result
at_source g c = record {
  one_side = c.requires.one_side;
  replaces = node_after-source c.args.merge.source c.args.merge.target c.requires.fit c.args.merge.source refl;
  ready = c.part_along-more.ensures;
}

pub returns-then-branch-clause-finds : goal.returns-then-branch-clause-finds
returns-then-branch-clause-finds g c =
    let found : IsSearchResult true c.args.nodes.now c.follow.new.nodes c.args.goals.now
    (LeadsFrom (AfterMerge c.args.merge.source c.args.merge.target) (g.L.Links.net c.args.links.now).links
    c.args.relation
    c.args.merge.target c.args.merge.target) =
    (rw c.if-branch.true at c.in_ok-follow.ensures.finds) c.args.relation
    (at_target g (goal.at.returns-then-branch-clause-finds g c).In_ok-follow) in (
      found.0,
      found.1,
      Steps-sound (g.L.Links.net c.args.links.now).links c.args.relation
          (AfterMerge c.args.merge.source c.args.merge.target) c.args.merge.target c.args.merge.target found.0 found.2,
    )

pub returns-then-branch-clause-count : goal.returns-then-branch-clause-count
returns-then-branch-clause-count g c ns covers =
    let stands = CoversSide-target (g.L.Links.net c.args.links.now).links c.args.merge.source c.args.merge.target
    c.requires.fit
    (side_in c.args.relation) ns covers in
    let one : g.L.Links.count c.follow.new.links ≤ g.L.Links.count c.args.links.now
    + sum_by (one_on_side c.args.merge.target (side_in c.args.relation)) ns =
    c.in_ok-follow.ensures.count (side_in c.args.relation) c.requires.ready ns stands.0 in
    omega (
      arith,
      one,
      target_cost (g.L.Links.net c.args.links.now).links
          c.args.merge.source c.args.merge.target c.requires.fit (side_in c.args.relation) ns,
    )

pub returns-clause-finds : goal.returns-clause-finds
returns-clause-finds g c =
    let At : ℕ → ℕ → Type 0 = λ at. LeadsFrom (AfterMerge c.args.merge.source c.args.merge.target)
    (g.L.Links.net c.args.links.now).links c.args.relation at c.args.merge.target in
    let first : IsSearchResult false c.args.nodes.now c.follow.new.nodes c.args.goals.now (At c.args.merge.target) =
    (rw c.if-branch.false at c.in_ok-follow.ensures.finds) c.args.relation
    (at_target g (goal.at.returns-clause-finds g c).In_ok-follow) in
    let second : IsSearchResult c.in_ok-found.found c.follow.new.nodes c.follow-2.new.nodes c.args.goals.now
    (At c.args.merge.source) = rw c.in_ok-follow.ensures.net at (c.in_ok-found.ensures.finds c.args.relation
    (at_source g (goal.at.returns-clause-finds g c).In_ok-found)) in
    IsSearchResult-then c.args.nodes.now c.follow.new.nodes c.follow-2.new.nodes c.args.goals.now
    (At c.args.merge.target)
    (At c.args.merge.source)
    (Steps c.args.relation (HeldAfter (AfterMerge c.args.merge.source c.args.merge.target) (g.L.Links.net
    c.args.links.now).links)
    c.args.merge.target)
    (Steps-target (g.L.Links.net c.args.links.now).links c.args.merge.source c.args.merge.target c.requires.fit
    c.args.relation
    c.requires.one_side c.requires.ready.two_ends)
    (Steps-sound (g.L.Links.net c.args.links.now).links c.args.relation (AfterMerge c.args.merge.source
    c.args.merge.target)
    c.args.merge.target c.args.merge.target)
    (Steps-sound (g.L.Links.net c.args.links.now).links c.args.relation (AfterMerge c.args.merge.source
    c.args.merge.target)
    c.args.merge.source c.args.merge.target)
    first c.in_ok-found.found second

pub returns-clause-count : goal.returns-clause-count
returns-clause-count g c ns covers =
    let stands = CoversSide-target (g.L.Links.net c.args.links.now).links c.args.merge.source c.args.merge.target
    c.requires.fit
    (side_in c.args.relation) ns covers in
    let one : g.L.Links.count c.follow.new.links ≤ g.L.Links.count c.args.links.now
    + sum_by (one_on_side c.args.merge.target (side_in c.args.relation)) ns =
    c.in_ok-follow.ensures.count (side_in c.args.relation) c.requires.ready ns stands.0 in
    let more : g.L.Links.count c.follow-2.new.links ≤ g.L.Links.count c.follow.new.links
    + sum_by (one_on_side c.args.merge.source (side_in c.args.relation)) ns =
    c.in_ok-found.ensures.count (side_in c.args.relation) c.part_along-more.ensures ns
    (rw c.in_ok-follow.ensures.net stands.1) in
    omega (
      arith,
      one,
      more,
      target_cost (g.L.Links.net c.args.links.now).links
          c.args.merge.source c.args.merge.target c.requires.fit (side_in c.args.relation) ns,
    )
