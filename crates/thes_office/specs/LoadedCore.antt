-- A core built from the rows of a store.
use Rattle.std.specs.Prelude.{◌≡◌, Ok}
use Rattle.thes_tables.specs.Tables.{Tables}
use Rattle.thes_tables.specs.Cells.{Raw}
use Rattle.thes_load_rules.specs.Rules.{state_of}
use Rattle.thes_load_rules.specs.Verdicts.{HasVerdict}
use Rattle.thes_core.specs.CoreView.{CoreView, IsViewOf}

-- The rows load, and the core holds the state that they encode, with their base.
abbrev pub IsLoaded : Raw → CoreView → Type 0
IsLoaded raw core = (t : Tables) × HasVerdict raw (Ok t) × IsViewOf core (state_of t) × (core.setting.base ≡ t.base)
