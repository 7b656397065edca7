-- The results of parsing cells.
use Rattle.std.specs.Prelude.{◌≡◌, ◌≢◌, List, ℕ, Option, None, Some}
use Rattle.thes_base.specs.declared.data.LabelKind.{LabelKind}
use Rattle.thes_base.specs.declared.data.LabelValue.{LabelValue}
use Rattle.thes_base.specs.Data.{label_value_kind, label_value_text}
use Rattle.thes_base.specs.Texts.{IsLabelText}
use Rattle.thes_tables.specs.declared.cells.Cell.{Cell}
use Rattle.thes_tables.specs.declared.cells.Cell.TheVariants.{Text}
use Rattle.thes_tables.specs.Cells.{resource_cells}
use Rattle.thes_load_rows.specs.declared.rows.ResourceRow.{ResourceRow}

-- The result of parsing cells: a value of the form that has these cells, or None if no value of the form has them.
abbrev pub Spells : {A C : Type 0} → (A → C) → (A → Type 0) → C → Option A → Type 0
Spells cells_of Form cells (Some x) = Form x × (cells ≡ cells_of x)
Spells {A} cells_of Form cells None = (x : A) → Form x → cells ≢ cells_of x

-- The result of parsing a label's text: a value of the kind that has this cell, or None if no value has it.
abbrev pub SpellsValue : LabelKind → Cell → Option LabelValue → Type 0
SpellsValue kind cell (Some v) = (label_value_kind v ≡ kind) × IsLabelText kind (label_value_text v)
    × (cell ≡ Text (label_value_text v))
SpellsValue kind cell None = (text : List ℕ) → IsLabelText kind text → cell ≢ Text text

-- The cells of a row of table resource.
abbrev pub resource_row_cells : ResourceRow → List Cell
resource_row_cells row = resource_cells row.number row.resource
