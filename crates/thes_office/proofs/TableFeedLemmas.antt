-- Proves which rows a loader has received once it has accepted all rows of one table.
use Rattle.std.proofs.lemmas.Grind.{common_steps}
use Rattle.std.proofs.Common.{◌≡◌, List, [], ◌∷◌, ◌++◌, map, arith, append_assoc}
use Rattle.std.specs.Prelude.{None, Some}
use Rattle.std.proofs.lemmas.List.{append-nil}
use Rattle.thes_base.specs.declared.fault.Table.{Table}
use Rattle.thes_tables.specs.declared.cells.Cell.{Cell}
use Rattle.thes_tables.specs.Cells.{Raw, RawTable}
use Rattle.thes_store.specs.Sinks.{sink_rows_of_table}
use Rattle.thes_store.specs.Sinks as yields
use Rattle.thes_tables.specs.TableOrder.{with_rows}
use Rattle.thes_load_rows.specs.Progress.{raw_with_row, raw_without_table}
use Rattle.thes_office.specs.declared.loader.Loader.{Loader}
use Rattle.thes_load_rows.specs.Turns.{IsInTurn}
use Rattle.thes_office.specs.LoaderFeed.{KnowsRows, FeedResult}

pushed_rows : (name : Table) (raw : Raw) (rows : List (List Cell)) (cells : List Cell) → raw_with_row name cells
    (with_rows name (Some rows) raw) ≡ with_rows name (Some (rows ++ cells ∷ [])) raw
pushed_rows name raw rows cells = grind (arith, common_steps)

lost_rows : (name : Table) (raw : Raw) (rows : RawTable) → raw_without_table name (with_rows name rows raw)
    ≡ with_rows name None raw
lost_rows name raw rows = grind (arith, common_steps)

-- The loader has received all rows of the table.
pub record HasReadTable (name : Table) (raw : Raw) (old new : Loader) : Type 0 where
  pub turn : IsInTurn name new.stage
  pub knows : KnowsRows new raw
  pub same : new.limits ≡ old.limits

module _ (name : Table) (raw : Raw) where
  -- A loader that has accepted the rest of the rows of a table has received all rows of the table.
  rows_taken : (done rows : List (List Cell)) (old new : Loader) → IsInTurn name old.stage
      → KnowsRows old (with_rows name (Some done) raw)
      → yields.SinkAcceptsAll FeedResult old (map (λ row. (name, Some row)) rows) new
      → HasReadTable name (with_rows name (Some (done ++ rows)) raw) old new
  rows_taken done [] old new turn knows is = grind (arith, common_steps, append-nil)
  rows_taken done (cells ∷ rows) old new turn knows (mid, (same, follows), rest) =
      grind (arith, common_steps, append_assoc, pushed_rows, rows_taken (done ++ cells ∷ []) rows mid new)

  pub table_taken : (rows : RawTable) (old new : Loader) → IsInTurn name old.stage
      → KnowsRows old (with_rows name (Some []) raw)
      → yields.SinkAcceptsAll FeedResult old (sink_rows_of_table name rows) new
      → HasReadTable name (with_rows name rows raw) old new
  table_taken None old new turn knows (mid, (same, follows), is) = grind (arith, common_steps, lost_rows)
  table_taken (Some rows) old new turn knows takes = rows_taken [] rows old new turn knows takes
