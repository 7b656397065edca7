use Rattle.std.proofs.Common.{arith}
use Rattle.thes_display.specs.HierarchyParts.{rank_at}
use Rattle.thes_display.proofs.RankLemmas.{all_ranks}
use Rattle.thes_display.proofs.number_table.ranks_of.Goals as goal

pub returns : goal.returns
returns c = all_ranks c.args.terms.now c.loop-rank.rank (rank_at c.loop-rank.ranks.items) (omega arith)
    c.loop-rank.invariant
