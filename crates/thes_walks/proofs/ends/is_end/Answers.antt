use Rattle.std.proofs.Common.{subst}
use Rattle.std.proofs.lemmas.Bool.{leb-true}
use Rattle.thes_links.specs.declared.side.Side.{Side}
use Rattle.thes_links.specs.Side.{IsPart}
use Rattle.thes_walks.proofs.SideLemmas.{no_steps}
use Rattle.thes_walks.proofs.ends.is_end.Goals as goal

pub returns-clause-end : goal.returns-clause-end
returns-clause-end g c = λ on. record {
  none = no_steps (g.L.Links.net c.args.links.now).links c.args.relation c.args.n
      (g.L.Links.links_of (g.L.Links.net c.args.links.now) c.args.n)
      c.part-part.result c.requires
      c.part-part.ensures.row.two_ends c.part-part.ensures.row.listing
      (subst (λ (s : Side). IsPart (g.L.Links.links_of (g.L.Links.net c.args.links.now) c.args.n) c.args.n s
      c.part-part.result) c.side_for.ensures c.part-part.ensures.part)
      (leb-true c.part-part.result.to c.part-part.result.from on);
}
