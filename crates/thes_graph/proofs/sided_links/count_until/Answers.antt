use Rattle.std.proofs.Common.{sym, ◌∙◌}
use Rattle.std.proofs.Math.Dec.{leb}
use Rattle.thes_graph.proofs.PartLemmas.{number_of, all_pass}
use Rattle.thes_graph.proofs.sided_links.count_until.Goals as goal

pub returns-in_default-clause-place : goal.returns-in_default-clause-place
returns-in_default-clause-place c =
    all_pass (λ s. leb (number_of s) c.args.number) c.args.row.now c.in-Some.last.now (sym c.in-Some.ensures.value)
    (sym c.is_at_most.ensures ∙ c.if-not-is_at_most.false)
