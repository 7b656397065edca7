use Rattle.std.proofs.Common.{◌≡◌, ◌-◌, ◌+◌, ℕ, List, arith, refl, sym, subst, ap, ◌∙◌, get_or}
use Rattle.std.proofs.lemmas.List.{get_or_default}
use Rattle.thes_base.specs.declared.data.Link.{Link}
use Rattle.thes_links.specs.declared.edit.LinkEdit.TheVariants.{NoEdit}
use Rattle.thes_links.specs.Side.{side_in}
use Rattle.thes_links.specs.LinkEdit.{HeldAfter}
use Rattle.thes_links.specs.Steps.{Steps}
use Rattle.thes_walks.specs.SideSearch.{LeadsFrom, IsPartAt}
use Rattle.thes_walks.proofs.AdvanceLemmas.{hierarchy_is_one_sided, IsAdvanceResult-more}
use Rattle.thes_walks.proofs.SideSearchLemmas.{IsSearchResult-same, part_cost, Steps-sound, Steps-held}
use Rattle.thes_walks.proofs.side_search.SideSearch.advance_at.Goals as goal

pub returns-clause-advances : goal.returns-clause-advances
returns-clause-advances g c relation can =
    let x : ℕ = c.index-as_slice-self.result in
    let row : List Link = g.L.Links.links_of (g.L.Links.net c.args.links.now) x in
    let at : x ≡ get_or c.args.self.now.nodes c.args.self.now.next 0 =
    c.index-as_slice-self.is ∙ ap (λ (xs : List ℕ). get_or xs c.args.self.now.next x) c.as_slice.ensures
    ∙ get_or_default c.args.self.now.nodes c.args.self.now.next x 0 can.more in
    let rows : ℕ → List Link = g.L.Links.links_of (g.L.Links.net c.args.links.now) in
    let one_side = hierarchy_is_one_sided relation can.hierarchy in
    let ready : IsPartAt (g.L.Links.net c.args.links.now).links row x (side_in relation) c.args.part =
    subst (λ (n : ℕ). IsPartAt (g.L.Links.net c.args.links.now).links (rows n) n (side_in relation) c.args.part)
    (sym at) (can.ready can.more) in
    record {
      next = refl;
      continues = λ kept among start read is.
          IsAdvanceResult-more NoEdit (g.L.Links.net c.args.links.now).links relation kept start can.hierarchy
          c.args.self.now (record { nodes = c.follow.new.nodes; next = c.args.self.now.next + 1 }) x
          (c.args.part.to - c.args.part.from) read (read + (c.args.part.to - c.args.part.from)) can.more
          at refl (omega arith)
          (λ ns covers. part_cost (g.L.Links.net c.args.links.now).links x (side_in relation) row c.args.part
          ready.is_row ready.on_side ns (λ l has ends _. covers l has ends))
          is c.args.goals.now among c.in_ok-found.found
          (IsSearchResult-same c.args.self.now.nodes c.follow.new.nodes c.args.goals.now
          (LeadsFrom NoEdit (g.L.Links.net c.args.links.now).links relation x x)
          (Steps relation (HeldAfter NoEdit (g.L.Links.net c.args.links.now).links) x)
          (Steps-sound (g.L.Links.net c.args.links.now).links relation NoEdit x x)
          (Steps-held (g.L.Links.net c.args.links.now).links relation one_side ready.two_ends x)
          c.in_ok-found.found
          (c.in_ok-found.ensures.finds relation
          (record { one_side = one_side; replaces = refl; ready = ready })));
    }
