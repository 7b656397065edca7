-- Tables with postings but no moves, and the changes that move postings.
use Rattle.std.specs.Prelude.{◌≡◌, ◌≤◌, ◌+◌, ℕ, List, [], length}
use Rattle.thes_tables.specs.Cells.{Raw, cells_of_tables}
use Rattle.thes_tables.specs.declared.change.Change.{Change}
use Rattle.thes_tables.specs.declared.rows.MoveRow.{MoveRow}
use Rattle.thes_tables.specs.Rows.{tables_after_delta, DeltaFits}
use Rattle.thes_tables.specs.Tables.{Tables, IsIn}
use Rattle.thes_store.specs.Storage.{StorageView}

-- The rows are those of tables without moves, whose next posting has the number `next`.
pub record ArePosted (raw : Raw) (next : ℕ) : Type 0 where
  pub tables : Tables
  pub raw_is_listed : raw ≡ cells_of_tables tables
  pub next_is : next ≡ length tables.posting + 1
  pub has_no_moves : tables.move ≡ []

-- If the storage is up, its next posting has the number `next`, and it has no moves.
abbrev pub AwaitsPosting : StorageView → ℕ → Type 0
AwaitsPosting storage next = storage.is_up → ArePosted storage.rows next

-- The changes fit the tables, and the tables after them have no move with a number greater than `last`.
pub record FitUpTo (changes : List Change) (t : Tables) (last : ℕ) : Type 0 where
  pub fit : DeltaFits changes t
  pub below : (row : MoveRow) → IsIn row (tables_after_delta changes t).move → row.number ≤ last
