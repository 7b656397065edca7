-- Rows sorted by the number in their first cell.
use Rattle.std.specs.Prelude.{◌≡◌, ℕ, pos, List, ◌∷◌, Option, None, Some, Vec}
use Rattle.std.specs.Global.{Global}
use Rattle.std.specs.List.Sorted.{IsPermutation, IsNonDecreasingBy}
use Rattle.thes_tables.specs.declared.cells.Cell.{Cell}
use Rattle.thes_tables.specs.declared.cells.Cell.TheVariants.{Int}
use Rattle.thes_tables.specs.Cells.{Raw, RawTable}
use Rattle.thes_row_lists.specs.declared.row_lists.CellRows.{CellRows}

-- The number in the first cell of a row, or 0 if that cell isn't a natural number.
abbrev pub first_number : List Cell → ℕ
first_number (Int (pos n) ∷ cells) = n
first_number _ = 0

-- The second table has the rows of the first, sorted by number; or neither can be queried.
abbrev pub IsSortedCopy : RawTable → RawTable → Type 0
IsSortedCopy None sorted = sorted ≡ None
IsSortedCopy (Some rows) None = ⊥
IsSortedCopy (Some rows) (Some sorted) = IsPermutation rows sorted × IsNonDecreasingBy first_number sorted

-- The rows are the same, and those of numbered tables are sorted by number.
pub record AreSorted (raw sorted : Raw) : Type 0 where
  pub meta : sorted.meta ≡ raw.meta
  pub resource : IsSortedCopy raw.resource sorted.resource
  pub outside : IsSortedCopy raw.outside sorted.outside
  pub label : sorted.label ≡ raw.label
  pub link : sorted.link ≡ raw.link
  pub hier : sorted.hier ≡ raw.hier
  pub posting : IsSortedCopy raw.posting sorted.posting
  pub move : IsSortedCopy raw.move sorted.move

-- The rows of the list; None for a table that can't be queried.
abbrev pub table_of : Option (Vec (List Cell) Global) → RawTable
table_of None = None
table_of (Some rows) = Some rows.items

-- The rows of the lists, table by table.
abbrev pub raw_of : CellRows → Raw
raw_of rows =
    record {
      meta = table_of rows.meta;
      resource = table_of rows.resource;
      outside = table_of rows.outside;
      label = table_of rows.label;
      link = table_of rows.link;
      hier = table_of rows.hier;
      posting = table_of rows.posting;
      move = table_of rows.steps;
    }
