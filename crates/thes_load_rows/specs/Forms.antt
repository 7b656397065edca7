-- The forms of rows: numbers are in range, texts have the right forms, and kinds belong to the table.
use Rattle.std.specs.Prelude.{◌≡◌, ℕ, List, Option, None, Some}
use Rattle.thes_base.specs.declared.data.Link.{Link}
use Rattle.thes_base.specs.Forms.{IsNumber, IsIri}
use Rattle.thes_base.specs.Texts.{IsLabelForm, IsPostingForm}
use Rattle.thes_base.specs.Labels.{Label}
use Rattle.thes_tables.specs.declared.rows.HierRow.{HierRow}
use Rattle.thes_tables.specs.declared.rows.PostingRow.{PostingRow}
use Rattle.thes_tables.specs.declared.rows.MoveRow.{MoveRow}
use Rattle.thes_tables.specs.Tables.{hier_type}
use Rattle.thes_load_rows.specs.declared.rows.ResourceRow.{ResourceRow}

-- The number is in range, if there is one.
abbrev pub IsNumberOrNone : Option ℕ → Type 0
IsNumberOrNone None = Unit {0}
IsNumberOrNone (Some n) = IsNumber n

-- The row of table resource has numbers in range: its own, its scheme's and its replacement's.
abbrev pub HasResourceForm : ResourceRow → Type 0
HasResourceForm row = IsNumber row.number × IsNumberOrNone row.resource.scheme × IsNumberOrNone row.resource.replaced

-- The row of table outside has a number in range, and an IRI of the right form.
abbrev pub HasOutsideForm : ℕ × List ℕ → Type 0
HasOutsideForm row = IsNumber row.0 × IsIri row.1

-- The row of table label has an owner in range, and a tag and a text of the right forms.
abbrev pub HasLabelForm : Label → Type 0
HasLabelForm l = IsNumber l.owner × IsLabelForm l.kind l.tag l.text

-- The row of table link has ends in range, and a kind that isn't hierarchical.
abbrev pub HasLinkForm : Link → Type 0
HasLinkForm l = (hier_type l.kind ≡ None) × IsNumber l.a × IsNumber l.b

-- The row of table hier has ends in range.
abbrev pub HasHierForm : HierRow → Type 0
HasHierForm row = IsNumber row.a × IsNumber row.b

-- The row of table posting has numbers in range, and a key and a record name of the right forms.
abbrev pub HasPostingForm : PostingRow → Type 0
HasPostingForm row = IsNumber row.number × IsPostingForm row.key row.rec × IsNumber row.first × IsNumber row.place

-- The row of table move has numbers in range: its own, its posting's, its source's and its target's.
abbrev pub HasMoveForm : MoveRow → Type 0
HasMoveForm row = IsNumber row.number × IsNumber row.posting × IsNumber row.source × IsNumber row.target
