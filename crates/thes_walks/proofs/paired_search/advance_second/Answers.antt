use Rattle.std.proofs.Common.{◌+◌, ◌-◌, arith, ◌∙◌, true, rules}
use Rattle.thes_links.specs.declared.edit.LinkEdit.TheVariants.{NoEdit}
use Rattle.thes_walks.specs.SideSearch.{IsSideSearch, IsAdvanceResult, CanAdvance}
use Rattle.thes_walks.proofs.AdvanceLemmas.{IsSideSearch-less, IsAdvanceResult-less}
use Rattle.thes_walks.proofs.paired_search.advance_second.Given.{Over}
use Rattle.thes_walks.proofs.paired_search.advance_second.Goals as goal
use Rattle.thes_walks.proofs.paired_search.advance_second.Goals.{In_ok-advance_at}

-- The second search can read the range.
can : (g : Over) (c : In_ok-advance_at g) → CanAdvance NoEdit (g.L.Links.net c.reading.links).links
    (g.L.Links.links_of (g.L.Links.net c.reading.links)) c.args.relation c.reading.second c.next_part-part.result
can g c = record {
  fit = tt;
  hierarchy = c.requires;
  more = search rules;
  ready = c.next_part-part.ensures;
}

pub reading-preserved : goal.reading-preserved
reading-preserved g c = record {
  net = c.in_ok-advance_at.ensures.net ∙ c.reading.invariant.net;
  allowance = omega (arith, c.reading.invariant.allowance);
  count = omega (
    arith,
    c.in_ok-advance_at.ensures.count,
    c.reading.invariant.count,
    c.reading.invariant.allowance,
    c.size-size.ensures,
    c.if-allowance-size.false,
  );
  continues = λ kept among start read is.
      let on : IsSideSearch NoEdit (g.L.Links.net c.args.links.now).links c.args.relation kept
      start c.advance_at.new.self (read + (c.args.allowance.now - c.reading.allowance)
      + (c.next_part-part.result.to - c.next_part-part.result.from)) =
      (rw (c.if-branch.false, c.reading.invariant.net) at
      (c.in_ok-advance_at.ensures.advances c.args.relation
      (can g (goal.at.reading-preserved g c).In_ok-advance_at)).continues) kept among
      start (read + (c.args.allowance.now - c.reading.allowance))
      (c.reading.invariant.continues kept among start read is) in
      IsSideSearch-less NoEdit (g.L.Links.net c.args.links.now).links c.args.relation kept start
      c.advance_at.new.self _ _ (omega (
        arith,
        c.reading.invariant.allowance,
        c.size-size.ensures,
        c.if-allowance-size.false,
      )) on;
}

pub returns-then-branch-clause-continues : goal.returns-then-branch-clause-continues
returns-then-branch-clause-continues g c kept among start read is =
    let on : IsAdvanceResult NoEdit (g.L.Links.net c.args.links.now).links c.args.relation kept c.args.firsts.now
    start c.advance_at.new.self (read + (c.args.allowance.now - c.reading.allowance)
    + (c.next_part-part.result.to - c.next_part-part.result.from)) true =
    (rw (c.if-branch.true, c.reading.invariant.net) at
    (c.in_ok-advance_at.ensures.advances c.args.relation
    (can g (goal.at.returns-then-branch-clause-continues g c).In_ok-advance_at)).continues) kept among
    start (read + (c.args.allowance.now - c.reading.allowance))
    (c.reading.invariant.continues kept among start read is) in
    IsAdvanceResult-less NoEdit (g.L.Links.net c.args.links.now).links c.args.relation kept c.args.firsts.now start
    c.advance_at.new.self _ _ (omega (
      arith,
      c.reading.invariant.allowance,
      c.size-size.ensures,
      c.if-allowance-size.false,
    )) true on
