use Rattle.thes_export.proofs.GatherLemmas.{sorted_listing}
use Rattle.thes_export.proofs.gather.sort_parts.Goals as goal

pub returns : goal.returns
returns c = sorted_listing c.args.parts.now.items _ _ c.in_ok-sort.ensures.permutation c.in_ok-sort.ensures.sorted
    c.dedup.ensures.filtered
