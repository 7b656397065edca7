-- The cells of the row of table meta, by version.
use Rattle.std.specs.Prelude.{◌≡◌, ◌≢◌, ◌⊎◌, ◌<◌, ℕ, List, [], ◌∷◌, Option, None, Some}
use Rattle.thes_base.specs.Forms.{IsBase}
use Rattle.thes_tables.specs.declared.cells.Cell.{Cell}
use Rattle.thes_tables.specs.Cells.{number_cell, meta_cells}
use Rattle.thes_load_rows.specs.declared.meta.MetaRow.{MetaRow}
use Rattle.thes_load_rows.specs.declared.meta.MetaRow.TheVariants.{Newer, Older, Base}

-- The cells of a row of table meta that has this version.
abbrev pub version_cells : ℕ → Cell → List Cell
version_cells version base = number_cell 1 ∷ number_cell version ∷ base ∷ []

-- The result of parsing a row of table meta: `Newer`, `Older`, or the base of version 2. It is None if the cells aren't
-- those of a row of any version.
abbrev pub SpellsMeta : List Cell → Option MetaRow → Type 0
SpellsMeta cells (Some Newer) = (version : ℕ) × (base : Cell) × (2 < version) × (cells ≡ version_cells version base)
SpellsMeta cells (Some Older) = (base : Cell) × (cells ≡ version_cells 1 base)
SpellsMeta cells (Some (Base base)) = IsBase base × (cells ≡ meta_cells base)
SpellsMeta cells None =
    ((version : ℕ) (base : Cell) → (2 < version) ⊎ (version ≡ 1) → cells ≢ version_cells version base)
    × ((base : List ℕ) → IsBase base → cells ≢ meta_cells base)
