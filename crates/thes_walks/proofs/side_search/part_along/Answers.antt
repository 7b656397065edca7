use Rattle.std.proofs.Common.{subst}
use Rattle.thes_links.specs.declared.side.Side.{Side}
use Rattle.thes_links.specs.Side.{IsPart}
use Rattle.thes_walks.proofs.side_search.part_along.Goals as goal

pub returns : goal.returns
returns g c = record {
  two_ends = c.part.ensures.row.two_ends;
  is_row = c.part.ensures.row.listing;
  on_side = subst (λ (s : Side). IsPart (g.L.Links.links_of (g.L.Links.net c.args.links.now) c.args.n) c.args.n s
      c.part.result) c.side_for.ensures c.part.ensures.part;
}
