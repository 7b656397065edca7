use Rattle.thes_display.specs.HierarchyParts.{rank_at}
use Rattle.thes_display.proofs.RankLemmas.{AreRanksBelow}
use Rattle.thes_display.proofs.number_table.ranks_of.Given as goal

abbrev pub invariant-loop-rank : goal.invariant-loop-rank
invariant-loop-rank l = AreRanksBelow l.terms l.rank (rank_at l.ranks.items)
