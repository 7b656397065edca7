use Rattle.std.proofs.Common.{rules}
use Rattle.std.proofs.Math.Dec.{leb}
use Rattle.std.proofs.lemmas.List.Sorted.{IsPartitionPoint-from_clause}
use Rattle.thes_graph.proofs.PartLemmas.{number_of}
use Rattle.thes_graph.proofs.sided_links.search_until.Goals as goal

pub returns-clause-place : goal.returns-clause-place
returns-clause-place c = λ by.
    IsPartitionPoint-from_clause (λ s. leb (number_of s) c.args.number) c.args.row.now c.partition_point.result
    c.partition_point.ensures.partitioned by (λ a r g called. search rules)
