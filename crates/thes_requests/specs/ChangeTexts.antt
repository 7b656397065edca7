-- The text of changes of rows as JSON, with cells as the columns of the store have them.
use Rattle.std.specs.Prelude.{◌≡◌, ◌==◌, ◌-◌, ℕ, List, [], ◌∷◌, ◌++◌, codes, flat_map, map, length, take, slice_index}
use Rattle.std.specs.Prelude.{if◌then◌else◌}
use Rattle.std.specs.Fmt.{signed_decimal}
use Rattle.std.specs.List.{join_with_byte}
use Rattle.json.specs.Print.{quoted}
use Rattle.thes_base.specs.FaultNames.{table_name}
use Rattle.thes_base.specs.declared.fault.Table.{Table}
use Rattle.thes_base.specs.declared.fault.Table.TheVariants.{Resource, Outside, Label, Link, Hier, Posting, Move}
use Rattle.thes_tables.specs.Cells.{resource_cells, outside_cells, label_cells, link_cells, hier_cells, posting_cells}
use Rattle.thes_tables.specs.Cells.{move_cells, number_cell}
use Rattle.thes_tables.specs.declared.cells.Cell.{Cell}
use Rattle.thes_tables.specs.declared.cells.Cell.TheVariants as cells
use Rattle.thes_tables.specs.declared.change.Change.{Change}
use Rattle.thes_tables.specs.declared.change.Change.TheVariants as change
use Rattle.thes_requests.specs.declared.change_list.Column.{Column}
use Rattle.thes_requests.specs.declared.change_list.Column.TheVariants as column

-- The text of a cell: a number, a string, or null. No column has blobs.
abbrev pub cell_text : Cell → List ℕ
cell_text (cells.Int i) = signed_decimal i
cell_text (cells.Text text) = quoted text
cell_text (cells.Bytes bytes) = []
cell_text cells.Null = codes "null"

-- The cells of a change, each after a comma.
abbrev pub cells_text : List Cell → List ℕ
cells_text row = flat_map (λ cell. 44 ∷ cell_text cell) row

-- The text of a change: its words, each in quotes, and its cells, as an array.
abbrev pub element_text : List ℕ → List Cell → List ℕ
element_text words row = codes "[" ++ words ++ cells_text row ++ codes "]"

-- The text of the insertion of a row into a table: `["insert",TABLE,CELL,..]`.
abbrev pub insertion_text : Table → List Cell → List ℕ
insertion_text table row = element_text (codes "\"insert\",\"" ++ table_name table ++ codes "\"") row

-- The text of the deletion of a row from a table: `["delete",TABLE,CELL,..]`.
abbrev pub deletion_text : Table → List Cell → List ℕ
deletion_text table row = element_text (codes "\"delete\",\"" ++ table_name table ++ codes "\"") row

-- The text of a change of rows.
abbrev pub change_text : Change → List ℕ
change_text (change.AddResource n r) = insertion_text Resource (resource_cells n r)
change_text (change.AddOutside n iri) = insertion_text Outside (outside_cells (n, iri))
change_text (change.AddLabel l) = insertion_text Label (label_cells l)
change_text (change.DropLabel l) = deletion_text Label (label_cells l)
change_text (change.AddLink l) = insertion_text Link (link_cells l)
change_text (change.DropLink l) = deletion_text Link (link_cells l)
change_text (change.AddHier row) = insertion_text Hier (hier_cells row)
change_text (change.DropHier row) = deletion_text Hier (hier_cells row)
change_text (change.AddPosting row) = insertion_text Posting (posting_cells row)
change_text (change.AddMove row) = insertion_text Move (move_cells row)
change_text (change.Retire n) = element_text (codes "\"retire\"") (number_cell n ∷ [])
change_text (change.Replace n by) = element_text (codes "\"replace\"") (number_cell n ∷ number_cell by ∷ [])
change_text (change.Withdraw n) = element_text (codes "\"withdraw\"") (number_cell n ∷ [])
change_text (change.SetPlace n place) = element_text (codes "\"place\"") (number_cell n ∷ number_cell place ∷ [])
change_text (change.MoveAll source target) =
    element_text (codes "\"move\"") (number_cell source ∷ number_cell target ∷ [])

-- The text of changes, in order, with a comma after each.
abbrev pub items_text : List Change → List ℕ
items_text changes = flat_map (λ c. change_text c ++ codes ",") changes

-- The changes got by a report are added after those before.
abbrev pub AddsItems : List ℕ → List Change → List ℕ → Type 0
AddsItems old changes new = new ≡ old ++ items_text changes

-- The beginning of a report, after which its changes follow.
abbrev pub list_opening : List ℕ
list_opening = codes "{\"changes\":["

-- The text without a comma at its end.
abbrev pub without_last_comma : List ℕ → List ℕ
without_last_comma text = if slice_index text (length text - 1) == 44 then take (length text - 1) text else text

-- The first part of a report: the list of the changes, without its closing bracket.
abbrev pub changes_text : List Change → List ℕ
changes_text changes = list_opening ++ join_with_byte 44 (map change_text changes)

-- The cell that a column's value is.
abbrev pub column_cell : Column → Cell
column_cell (column.Number n) = number_cell n
column_cell (column.Text text) = cells.Text text.now
column_cell column.Null = cells.Null
