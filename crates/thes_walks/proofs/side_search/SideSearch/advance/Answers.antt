use Rattle.std.proofs.Common.{◌≡◌, ◌-◌, ◌+◌, ℕ, List, arith, refl, ap, sym, subst, ◌∙◌, get_or}
use Rattle.std.proofs.lemmas.List.{get_or_default}
use Rattle.thes_base.specs.declared.data.Link.{Link}
use Rattle.thes_links.specs.Side.{side_in}
use Rattle.thes_walks.specs.SideSearch.{IsPartAt, next_node}
use Rattle.thes_walks.proofs.AdvanceLemmas.{hierarchy_is_one_sided, IsAdvanceResult-more}
use Rattle.thes_walks.proofs.side_search.SideSearch.advance.Given.{Over}
use Rattle.thes_walks.proofs.side_search.SideSearch.advance.Goals as goal
use Rattle.thes_walks.proofs.side_search.SideSearch.advance.Goals.{After-index-as_slice-self}

-- The node that is read is the next one.
is_next : (g : Over) (c : After-index-as_slice-self g) → c.index-as_slice-self.result ≡ next_node c.args.self.now
is_next g c =
    c.index-as_slice-self.is ∙ ap (λ (xs : List ℕ). get_or xs c.args.self.now.next c.index-as_slice-self.result)
    c.as_slice.ensures ∙ get_or_default c.args.self.now.nodes c.args.self.now.next c.index-as_slice-self.result 0
    c.requires.more

pub follow_after_edit-requires : goal.follow_after_edit-requires
follow_after_edit-requires g c = record {
  fit = c.requires.fit;
  one_side = hierarchy_is_one_sided c.args.along.now.relation c.requires.hierarchy;
  ready =
      let rows : ℕ → List Link = g.L.Links.links_of (g.L.Links.net c.args.links.now) in
      let P : ℕ → Type 0 = λ n. IsPartAt (g.L.Links.net c.args.links.now).links (rows n) n
      (side_in c.args.along.now.relation)
      c.args.part in
      subst P (sym (is_next g (goal.at.follow_after_edit-requires g c).After-index-as_slice-self))
      (c.requires.ready c.requires.more);
}

pub returns-clause-advances : goal.returns-clause-advances
returns-clause-advances g c = record {
  next = refl;
  continues = λ kept among start read is.
      IsAdvanceResult-more c.args.along.now.edit (g.L.Links.net c.args.links.now).links c.args.along.now.relation kept
      start c.requires.hierarchy
      c.args.self.now (record { nodes = c.follow_after_edit.new.nodes; next = c.args.self.now.next + 1 })
      c.index-as_slice-self.result
      (g.L.Links.count c.follow_after_edit.new.links - g.L.Links.count c.args.links.now) read
      (read + (g.L.Links.count c.follow_after_edit.new.links - g.L.Links.count c.args.links.now))
      c.requires.more
      (is_next g (goal.at.returns-clause-advances g c).After-index-as_slice-self)
      refl (omega arith) (λ ns covers. omega (arith, c.in_ok-found.ensures.count ns covers)) is c.args.goals.now among
      c.in_ok-found.found
      c.in_ok-found.ensures.finds;
}
