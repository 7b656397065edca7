-- The counts of the rows of table posting read so far.
use Rattle.std.specs.Prelude.{◌≡◌, ℕ, List, length, count_by}
use Rattle.thes_tables.specs.declared.rows.PostingRow.{PostingRow}
use Rattle.thes_tables.specs.Tables.{is_assigned_row}
use Rattle.thes_post.specs.PostingCounts.{PostingCounts, count_of}

-- The counts are those of the postings of these rows; moves aren't counted yet.
pub record AreCountsOfRows (rows : List PostingRow) (posting_counts : PostingCounts) : Type 0 where
  pub standing : (concept : ℕ) → count_of posting_counts concept ≡ count_by (is_assigned_row concept) rows
  pub accepted : posting_counts.accepted ≡ length rows
  pub withdrawn : posting_counts.withdrawn ≡ count_by (λ row. row.withdrawn) rows
  pub moves : posting_counts.moves ≡ 0
