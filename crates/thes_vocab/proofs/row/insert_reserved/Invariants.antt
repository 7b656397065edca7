use Rattle.std.proofs.Common.{◌≡◌, ◌≤◌, ◌+◌, ◌||◌}
use Rattle.std.specs.Prelude.{vec_len}
use Rattle.std.specs.Vec.{vec_capacity}
use Rattle.std.specs.List.Sorted.{IsStrictlySortedBy}
use Rattle.thes_base.specs.Data.{LabelData}
use Rattle.thes_vocab.specs.OwnLabels.{data_cmp, has_own}
use Rattle.thes_vocab.proofs.row.insert_reserved.Given as goal

abbrev pub invariant-inserting : goal.invariant-inserting
invariant-inserting l = IsStrictlySortedBy data_cmp l.list.items
    × (vec_len l.list + vec_len l.labels ≤ vec_capacity l.list)
    × ((q : LabelData) → (has_own l.labels.items q || has_own l.list.items q)
    ≡ (has_own l.fn.labels.items q || has_own l.fn.list.items q))

abbrev pub decreases-inserting : goal.decreases-inserting
decreases-inserting l = vec_len l.labels
