use Rattle.std.proofs.Common.{◌≡◌, ◌≢◌, ◌≤◌, ◌+◌, ℕ, List, Some, arith, inl, inr, refl, subst, sum_by, sym, ◌∙◌}
use Rattle.thes_base.specs.declared.data.Link.{Link}
use Rattle.thes_links.specs.declared.edit.LinkEdit.TheVariants.{NoEdit, WithLink, AfterMerge}
use Rattle.thes_links.specs.Side.{side_in}
use Rattle.thes_links.specs.LinkEdit.{HeldAfter}
use Rattle.thes_links.specs.Steps.{Steps}
use Rattle.thes_walks.specs.SideSearch.{LeadsFrom, IsPartAt, one_on_side}
use Rattle.thes_links.proofs.NumberLemmas.{eq_same, eq_other}
use Rattle.thes_links.proofs.ReadLemmas.{node_after-stays}
use Rattle.thes_walks.proofs.SideSearchLemmas.{IsSearchResult-same, IsSearchResult-then, Steps-sound, Steps-held}
use Rattle.thes_walks.proofs.SideSearchLemmas.{Steps-with, Steps-with_new}
use Rattle.thes_walks.proofs.MergeStepLemmas.{Steps-other, CoversSide-other, other_cost}
use Rattle.thes_walks.proofs.side_search.follow_after_edit.Goals as goal

pub follow_merged-requires : goal.follow_merged-requires
follow_merged-requires g c = record {
  fit = rw c.in-AfterMerge.is at c.requires.fit;
  one_side = c.requires.one_side;
  ready =
      let rows : ℕ → List Link = g.L.Links.links_of (g.L.Links.net c.args.links.now) in
      let P : ℕ → Type 0 = λ n. IsPartAt (g.L.Links.net c.args.links.now).links (rows n) n
      (side_in c.args.along.now.relation) c.args.from.part in
      subst P (eq_same _ _ _ c.eq-in-AfterMerge.ensures c.if-eq-2.true) c.requires.ready;
}

pub returns-in_ok-found-in-NoEdit-clause-finds : goal.returns-in_ok-found-in-NoEdit-clause-finds
returns-in_ok-found-in-NoEdit-clause-finds g c = rw c.in-NoEdit.is (
    IsSearchResult-same c.args.nodes.now c.follow.new.nodes c.args.goals.now
    (LeadsFrom NoEdit (g.L.Links.net c.args.links.now).links c.args.along.now.relation c.args.from.node
    c.args.from.node)
    (Steps c.args.along.now.relation (HeldAfter NoEdit (g.L.Links.net c.args.links.now).links) c.args.from.node)
    (Steps-sound (g.L.Links.net c.args.links.now).links c.args.along.now.relation NoEdit c.args.from.node
    c.args.from.node)
    (Steps-held (g.L.Links.net c.args.links.now).links c.args.along.now.relation c.requires.one_side
    c.requires.ready.two_ends c.args.from.node)
    c.in_ok-found-in-NoEdit.found ((rw c.in-NoEdit.is at c.in_ok-found-in-NoEdit.ensures.finds)
    c.args.along.now.relation
    (record { one_side = c.requires.one_side; replaces = refl; ready = c.requires.ready })))

pub returns-in_ok-found-in-NoEdit-clause-count : goal.returns-in_ok-found-in-NoEdit-clause-count
returns-in_ok-found-in-NoEdit-clause-count g c =
    rw c.in-NoEdit.is (λ ns covers. c.in_ok-found-in-NoEdit.ensures.count (side_in c.args.along.now.relation)
    c.requires.ready ns (λ l has ends _. covers l has ends))

pub returns-then-branch-clause-count : goal.returns-then-branch-clause-count
returns-then-branch-clause-count g c =
    rw c.in-WithLink.is (λ ns covers. c.in_ok-follow-in-WithLink.ensures.count (side_in c.args.along.now.relation)
    c.requires.ready ns (λ l has ends _. covers l has ends))

pub returns-in_ok-found-in-WithLink-clause-finds : goal.returns-in_ok-found-in-WithLink-clause-finds
returns-in_ok-found-in-WithLink-clause-finds g c = rw c.in-WithLink.is (
    IsSearchResult-then c.args.nodes.now c.follow-in-WithLink.new.nodes c.take.new.nodes c.args.goals.now
    (LeadsFrom (WithLink c.in-WithLink.new) (g.L.Links.net c.args.links.now).links c.args.along.now.relation
    c.args.from.node
    c.args.from.node)
    (λ y. c.step.result ≡ Some y)
    (Steps c.args.along.now.relation (HeldAfter (WithLink c.in-WithLink.new) (g.L.Links.net c.args.links.now).links)
    c.args.from.node)
    (λ y steps. elim (Steps-with (g.L.Links.net c.args.links.now).links c.args.along.now.relation c.requires.one_side
    c.requires.ready.two_ends c.in-WithLink.new c.args.from.node y steps) [
      | inl held ↦ inl held
      | inr new ↦ inr (c.step.ensures ∙ new)
    ])
    (Steps-sound (g.L.Links.net c.args.links.now).links c.args.along.now.relation (WithLink c.in-WithLink.new)
    c.args.from.node
    c.args.from.node)
    (λ y is. Steps-with_new (g.L.Links.net c.args.links.now).links c.args.along.now.relation c.requires.one_side
    c.requires.ready.two_ends c.in-WithLink.new c.args.from.node y (sym c.step.ensures ∙ is))
    ((rw (c.if-branch.false, c.in-WithLink.is) at c.in_ok-follow-in-WithLink.ensures.finds) c.args.along.now.relation
    (record { one_side = c.requires.one_side; replaces = refl; ready = c.requires.ready }))
    c.in_ok-found-in-WithLink.found c.in_ok-found-in-WithLink.ensures)

pub returns-in_ok-found-in-WithLink-clause-count : goal.returns-in_ok-found-in-WithLink-clause-count
returns-in_ok-found-in-WithLink-clause-count g c =
    rw c.in-WithLink.is (λ ns covers. c.in_ok-follow-in-WithLink.ensures.count (side_in c.args.along.now.relation)
    c.requires.ready ns (λ l has ends _. covers l has ends))

pub returns-then-eq-2-clause-finds : goal.returns-then-eq-2-clause-finds
returns-then-eq-2-clause-finds g c = rw (c.in-AfterMerge.is, eq_same _ _ _ c.eq-in-AfterMerge.ensures c.if-eq-2.true)
    c.in_ok-found-in-AfterMerge.ensures.finds

pub returns-in_ok-found-in-AfterMerge-2-clause-finds : goal.returns-in_ok-found-in-AfterMerge-2-clause-finds
returns-in_ok-found-in-AfterMerge-2-clause-finds g c =
    let two : c.in-AfterMerge.source ≢ c.in-AfterMerge.target = rw c.in-AfterMerge.is at c.requires.fit in
    rw c.in-AfterMerge.is (
    IsSearchResult-same c.args.nodes.now c.follow-in-AfterMerge.new.nodes c.args.goals.now
    (LeadsFrom (AfterMerge c.in-AfterMerge.source c.in-AfterMerge.target) (g.L.Links.net c.args.links.now).links
    c.args.along.now.relation c.args.from.node c.args.from.node)
    (Steps c.args.along.now.relation (HeldAfter (AfterMerge c.in-AfterMerge.source c.in-AfterMerge.target)
    (g.L.Links.net c.args.links.now).links) c.args.from.node)
    (Steps-sound (g.L.Links.net c.args.links.now).links c.args.along.now.relation
    (AfterMerge c.in-AfterMerge.source c.in-AfterMerge.target) c.args.from.node c.args.from.node)
    (λ y. Steps-other (g.L.Links.net c.args.links.now).links c.in-AfterMerge.source c.in-AfterMerge.target two
    c.args.along.now.relation c.requires.one_side c.requires.ready.two_ends c.args.from.node y
    (eq_other _ _ _ c.eq-in-AfterMerge.ensures c.if-eq-2.false))
    c.in_ok-found-in-AfterMerge-2.found
    ((rw c.in-AfterMerge.is at c.in_ok-found-in-AfterMerge-2.ensures.finds) c.args.along.now.relation (record {
      one_side = c.requires.one_side;
      replaces = node_after-stays c.in-AfterMerge.source c.in-AfterMerge.target two c.args.from.node c.args.from.node
          (eq_other _ _ _ c.eq.ensures c.if-eq.false) refl;
      ready = c.requires.ready;
    })))

pub returns-in_ok-found-in-AfterMerge-2-clause-count : goal.returns-in_ok-found-in-AfterMerge-2-clause-count
returns-in_ok-found-in-AfterMerge-2-clause-count g c =
    let two : c.in-AfterMerge.source ≢ c.in-AfterMerge.target = rw c.in-AfterMerge.is at c.requires.fit in
    let off : c.args.from.node ≢ c.in-AfterMerge.source = eq_other _ _ _ c.eq.ensures c.if-eq.false in
    rw c.in-AfterMerge.is (λ ns covers.
    let one : g.L.Links.count c.follow-in-AfterMerge.new.links ≤ g.L.Links.count c.args.links.now
    + sum_by (one_on_side c.args.from.node (side_in c.args.along.now.relation)) ns =
    c.in_ok-found-in-AfterMerge-2.ensures.count (side_in c.args.along.now.relation) c.requires.ready ns
    (CoversSide-other (g.L.Links.net c.args.links.now).links
    c.in-AfterMerge.source c.in-AfterMerge.target two (side_in c.args.along.now.relation) ns c.args.from.node off
    covers) in
    omega (
      arith,
      one,
      other_cost (g.L.Links.net c.args.links.now).links c.in-AfterMerge.source c.in-AfterMerge.target two
          (side_in c.args.along.now.relation) ns c.args.from.node off
          (eq_other _ _ _ c.eq-in-AfterMerge.ensures c.if-eq-2.false),
    ))
