-- The places that the rows of table posting state.
use Rattle.std.specs.Prelude.{◌≡◌, List, map}
use Rattle.thes_tables.specs.declared.rows.PostingRow.{PostingRow}
use Rattle.thes_load_rows.specs.declared.postings.PlacedPostings.{PlacedPostings}
use Rattle.thes_load_rows.specs.PostingCounts.{AreCountsOfRows}

-- The stored places and the counts are those of the rows.
abbrev pub ArePlaced : PlacedPostings → List PostingRow → Type 0
ArePlaced placed rows = (placed.stored_places.items ≡ map (λ (row : PostingRow). row.place) rows)
    × AreCountsOfRows rows placed.tally
