-- The order of the eight tables, in which a load reads them, and look-ups of the rows of one table.
use Rattle.std.specs.Prelude.{ℕ, List, [], ◌∷◌}
use Rattle.thes_base.specs.declared.fault.Table.{Table}
use Rattle.thes_base.specs.declared.fault.Table.TheVariants as table
use Rattle.thes_tables.specs.Cells.{Raw, RawTable}

-- The eight tables in the order of a load.
abbrev pub table_order : List Table
table_order =
    table.Meta ∷ table.Resource ∷ table.Outside ∷ table.Label ∷ table.Link ∷ table.Hier ∷ table.Posting ∷ table.Move
    ∷ []

-- The index of a table in the order of a load, from 0.
abbrev pub table_no : Table → ℕ
table_no table.Meta = 0
table_no table.Resource = 1
table_no table.Outside = 2
table_no table.Label = 3
table_no table.Link = 4
table_no table.Hier = 5
table_no table.Posting = 6
table_no table.Move = 7

-- The table after this one in the order of a load; the last is its own successor.
abbrev pub next_table : Table → Table
next_table table.Meta = table.Resource
next_table table.Resource = table.Outside
next_table table.Outside = table.Label
next_table table.Label = table.Link
next_table table.Link = table.Hier
next_table table.Hier = table.Posting
next_table table.Posting = table.Move
next_table table.Move = table.Move

-- The rows of cells of one table.
abbrev pub raw_rows_of : Table → Raw → RawTable
raw_rows_of table.Meta raw = raw.meta
raw_rows_of table.Resource raw = raw.resource
raw_rows_of table.Outside raw = raw.outside
raw_rows_of table.Label raw = raw.label
raw_rows_of table.Link raw = raw.link
raw_rows_of table.Hier raw = raw.hier
raw_rows_of table.Posting raw = raw.posting
raw_rows_of table.Move raw = raw.move

-- The eight tables after the rows of cells of one table are replaced by `rows`.
abbrev pub with_rows : Table → RawTable → Raw → Raw
with_rows table.Meta rows raw = record raw { meta = rows }
with_rows table.Resource rows raw = record raw { resource = rows }
with_rows table.Outside rows raw = record raw { outside = rows }
with_rows table.Label rows raw = record raw { label = rows }
with_rows table.Link rows raw = record raw { link = rows }
with_rows table.Hier rows raw = record raw { hier = rows }
with_rows table.Posting rows raw = record raw { posting = rows }
with_rows table.Move rows raw = record raw { move = rows }

-- The eight tables with the rows of cells that `rows_of` gives for each.
abbrev pub raw_by_table : (Table → RawTable) → Raw
raw_by_table rows_of =
    record {
      meta = rows_of table.Meta;
      resource = rows_of table.Resource;
      outside = rows_of table.Outside;
      label = rows_of table.Label;
      link = rows_of table.Link;
      hier = rows_of table.Hier;
      posting = rows_of table.Posting;
      move = rows_of table.Move;
    }
