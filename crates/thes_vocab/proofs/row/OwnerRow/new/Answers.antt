use Rattle.std.specs.List.Sorted.{IsStrictlySortedBy}
use Rattle.thes_vocab.specs.OwnLabels.{data_cmp}
use Rattle.std.proofs.Common.{sym, subst}
use Rattle.thes_vocab.proofs.row.OwnerRow.new.Goals as goal

pub invariant_of-result : goal.invariant_of-result
unfolding IsStrictlySortedBy
invariant_of-result c = subst (IsStrictlySortedBy data_cmp) (sym c.new.ensures.items) tt
