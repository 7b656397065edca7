use Rattle.thes_base.specs.Links.{Holds}
use Rattle.thes_links.specs.Rules.{BreakNone}
use Rattle.bench_graph.proofs.levels.check_random_links.Given as goal

abbrev pub invariant-loop : goal.invariant-loop
invariant-loop l = BreakNone (Holds l.walk.net.links)
