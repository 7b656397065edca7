-- The version that the cells of a row of table meta state.
use Rattle.std.specs.Prelude.{◌<◌, ◌≤◌, ℕ, List, Option, None, Some}
use Rattle.thes_tables.specs.declared.cells.Cell.{Cell}
use Rattle.thes_sqlite.specs.declared.migrating.Version.{Version}
use Rattle.thes_sqlite.specs.declared.migrating.Version.TheVariants.{Older, Current, Newer}
use Rattle.thes_sqlite.specs.MigrationEffects.{IsVersionRow}

-- The result of reading the version: version 1, version 2, a newer version, or None if the cells state no version of at
-- least 1.
abbrev pub SpellsVersion : List Cell → Option Version → Type 0
SpellsVersion cells (Some Older) = IsVersionRow 1 cells
SpellsVersion cells (Some Current) = IsVersionRow 2 cells
SpellsVersion cells (Some Newer) = (version : ℕ) × (2 < version) × IsVersionRow version cells
SpellsVersion cells None = (version : ℕ) → 1 ≤ version → IsVersionRow version cells → ⊥
