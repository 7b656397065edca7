use Rattle.std.proofs.Common.{◌+◌, ◌-◌, arith, ◌∙◌, true}
use Rattle.thes_walks.specs.SideSearch.{IsSideSearch, IsAdvanceResult}
use Rattle.thes_walks.proofs.AdvanceLemmas.{IsSideSearch-less, IsAdvanceResult-less}
use Rattle.thes_walks.proofs.side_search.SideSearch.advance_to.Goals as goal

pub reading-preserved : goal.reading-preserved
reading-preserved g c = record {
  net = c.in_ok-advance.ensures.net ∙ c.reading.invariant.net;
  continues = λ kept among start read is.
      let on : IsSideSearch c.args.along.now.edit (g.L.Links.net c.args.links.now).links c.args.along.now.relation kept
      start c.advance.new.self (read + (g.L.Links.count c.reading.links - g.L.Links.count c.args.links.now)
      + (g.L.Links.count c.advance.new.links - g.L.Links.count c.reading.links)) =
      (rw (c.if-branch.false, c.reading.invariant.net) at c.in_ok-advance.ensures.advances.continues) kept among start
      (read + (g.L.Links.count c.reading.links - g.L.Links.count c.args.links.now))
      (c.reading.invariant.continues kept among start read is) in
      IsSideSearch-less c.args.along.now.edit (g.L.Links.net c.args.links.now).links c.args.along.now.relation kept
      start
      c.advance.new.self (read + (g.L.Links.count c.advance.new.links - g.L.Links.count c.args.links.now)) _
      (omega arith) on;
}

pub returns-then-branch-clause-continues : goal.returns-then-branch-clause-continues
returns-then-branch-clause-continues g c kept among start read is =
    let on : IsAdvanceResult c.args.along.now.edit (g.L.Links.net c.args.links.now).links c.args.along.now.relation kept
    c.args.goals.now start c.advance.new.self
    (read + (g.L.Links.count c.reading.links - g.L.Links.count c.args.links.now)
    + (g.L.Links.count c.advance.new.links - g.L.Links.count c.reading.links)) true =
    (rw (c.if-branch.true, c.reading.invariant.net) at c.in_ok-advance.ensures.advances.continues) kept among start
    (read + (g.L.Links.count c.reading.links - g.L.Links.count c.args.links.now))
    (c.reading.invariant.continues kept among start read is) in
    IsAdvanceResult-less c.args.along.now.edit (g.L.Links.net c.args.links.now).links c.args.along.now.relation kept
    c.args.goals.now
    start c.advance.new.self (read + (g.L.Links.count c.advance.new.links - g.L.Links.count c.args.links.now)) _
    (omega arith) true on
