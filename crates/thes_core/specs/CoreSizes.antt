-- The sizes of a core's state, and the totals of its postings.
use Rattle.std.specs.Prelude.{◌≡◌, ◌-◌, length}
use Rattle.std.specs.FinSet as set
use Rattle.thes_base.specs.declared.data.Totals.{Totals}
use Rattle.thes_post.specs.PostingCounts.{PostingCounts}
use Rattle.thes_core.specs.declared.reading.Sizes.{Sizes}
use Rattle.thes_core.specs.CoreView.{CoreView}

-- The sizes are those of the core's state; `accepted` includes withdrawn postings.
pub record AreSizesOf (core : CoreView) (sizes : Sizes) : Type 0 where
  pub resources : sizes.resources ≡ length core.resources
  pub labels : sizes.labels ≡ set.len core.labels
  pub links : sizes.links ≡ set.len core.links
  pub accepted : sizes.accepted ≡ core.posting_counts.accepted
  pub withdrawn : sizes.withdrawn ≡ core.posting_counts.withdrawn
  pub moves : sizes.moves ≡ core.posting_counts.moves

-- The totals are those of the counts; the standing postings are those accepted and not withdrawn.
pub record AreTotalsOf (posting_counts : PostingCounts) (totals : Totals) : Type 0 where
  pub accepted : totals.accepted ≡ posting_counts.accepted
  pub withdrawn : totals.withdrawn ≡ posting_counts.withdrawn
  pub standing : totals.standing ≡ posting_counts.accepted - posting_counts.withdrawn
