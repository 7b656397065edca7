use Rattle.std.proofs.Common.{◌≡◌, ◌≤◌, ◌+◌, length}
use Rattle.thes_tables.specs.Tables.{Tables}
use Rattle.thes_tables.specs.Rows.{DeltaFits}
use Rattle.thes_store.specs.Covers.{Covers}
use Rattle.thes_store.proofs.CoverLemmas.{SoFar}
use Rattle.thes_store.proofs.posting_indexes.cover_all.Given as goal

abbrev pub invariant-loop-change : goal.invariant-loop-change
invariant-loop-change l =
    (l.step ≤ l.moves + l.change-index)
    × ((t : Tables) → DeltaFits l.changes t → length t.move ≡ l.moves → Covers l.fn.indexes t
    → SoFar l.indexes l.changes l.change-index t l.step)
