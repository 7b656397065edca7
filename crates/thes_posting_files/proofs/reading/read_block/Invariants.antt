use Rattle.std.proofs.Common.{◌≡◌, ◌≤◌, ◌-◌, ◌++◌, List, ℕ, length, map}
use Rattle.thes_posting_files.specs.Outcomes.{fault_of_row, posts_of}
use Rattle.thes_posting_files.specs.RowReading.{HasReadRows}
use Rattle.thes_posting_files.specs.declared.csv_row.CsvRow.{CsvRow}
use Rattle.thes_posting_files.proofs.reading.read_block.Given as goal

abbrev pub invariant-loop-reader : goal.invariant-loop-reader
invariant-loop-reader l = record {
  rows : List CsvRow;
  reads : (bytes : List ℕ) (all first : List CsvRow) → HasReadRows bytes all first l.fn.reader
      → HasReadRows bytes all (first ++ rows) l.reader;
  begun : length rows ≡ 0 → l.reader.has_more ≡ l.fn.reader.has_more;
  few : length rows ≤ 1000;
  posts : l.block.posts.items ≡ posts_of rows;
  faults : l.block.faults.items ≡ map fault_of_row rows;
}

abbrev pub decreases-loop-reader : goal.decreases-loop-reader
decreases-loop-reader l = 1000 - length l.block.faults.items
