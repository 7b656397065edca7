use Rattle.std.proofs.Common.{take}
use Rattle.thes_graph.specs.FirstEnds.{AddsFirstEnds}
use Rattle.thes_graph.proofs.first_ends.list_first_ends.Given as goal

abbrev pub invariant-loop-sided_link : goal.invariant-loop-sided_link
invariant-loop-sided_link l = AddsFirstEnds l.number (take l.sided_link-index l.row) l.fn.all.items l.all.items
