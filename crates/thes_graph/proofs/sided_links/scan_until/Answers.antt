use Rattle.std.proofs.Common.{sym, ◌∙◌}
use Rattle.std.proofs.Math.Dec.{leb}
use Rattle.thes_graph.proofs.PartLemmas.{number_of, passed_until}
use Rattle.thes_graph.proofs.sided_links.scan_until.Goals as goal

pub returns-then-not-is_at_most-clause-place : goal.returns-then-not-is_at_most-clause-place
returns-then-not-is_at_most-clause-place c =
    passed_until (λ s. leb (number_of s) c.args.number) c.args.row.now c.loop-i.i c.loop-i.invariant.pass
    c.in-Some.sided_link.now c.in-Some.ensures.lookup.3.1 (sym c.is_at_most.ensures ∙ c.if-not-is_at_most.true)
