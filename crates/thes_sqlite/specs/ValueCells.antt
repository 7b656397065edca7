-- The cells of SQL values, in a database that may have any rows and values.
use Rattle.std.specs.Prelude.{negsuc, if◌then◌else◌}
use Rattle.std.specs.Str.{is_utf8}
use Rattle.sqlite.specs.declared.types.Value.{Value}
use Rattle.sqlite.specs.declared.types.Value.TheVariants.{Null, Int, Text, Real, Blob}
use Rattle.thes_tables.specs.declared.cells.Cell.{Cell}
use Rattle.thes_tables.specs.declared.cells.Cell.TheVariants as cells

-- The placeholder -1 for a value that no row of a store has; no column accepts it.
abbrev pub no_cell : Cell
no_cell = cells.Int (negsuc 0)

-- The cell of a value: an integer, a text in UTF-8 or NULL is its own cell, and any other value has the placeholder.
abbrev pub cell_of : Value → Cell
cell_of Null = cells.Null
cell_of (Int n) = cells.Int n
cell_of (Text t) = if is_utf8 t then cells.Text t else no_cell
cell_of (Real x) = no_cell
cell_of (Blob b) = no_cell
