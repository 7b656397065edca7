use Rattle.std.proofs.Common.{ℕ, List, sym, subst, arith}
use Rattle.std.proofs.lemmas.Option.{get_or_from_slice_get}
use Rattle.thes_base.specs.declared.data.Link.{Link}
use Rattle.thes_links.specs.Side.{side_in}
use Rattle.thes_walks.specs.SideSearch.{IsPartAt}
use Rattle.thes_links.proofs.WeightLemmas.{past_of_none}
use Rattle.thes_walks.proofs.side_search.SideSearch.next_part.Goals as goal

pub returns-in-Some : goal.returns-in-Some
returns-in-Some g c _ =
    let rows : ℕ → List Link = g.L.Links.links_of (g.L.Links.net c.args.links.now) in
    let P : ℕ → Type 0 = λ n. IsPartAt (g.L.Links.net c.args.links.now).links (rows n) n (side_in c.args.relation)
    c.part_along.result in
    subst P
    (sym (get_or_from_slice_get c.args.self.now.nodes c.args.self.now.next c.in-Some.x 0 (sym c.in-Some.ensures.node)))
    c.part_along.ensures

pub returns-in-None : goal.returns-in-None
returns-in-None g c more =
    let past = past_of_none c.args.self.now.nodes c.args.self.now.next (sym c.in-None.ensures.node) in
    absurd (omega (arith, more, past))
